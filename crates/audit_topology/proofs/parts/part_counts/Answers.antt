use Rattle.std.proofs.Common.{◌∙◌, ap}
use Rattle.audit_topology.specs.Parts.{counts}
use Rattle.audit_topology.proofs.parts.part_counts.Goals as goal

pub returns : goal.returns
returns g c = c.counts.ensures ∙ ap (counts c.args.areas.now) (c.deref.ensures.value ∙ c.part.view_is)
