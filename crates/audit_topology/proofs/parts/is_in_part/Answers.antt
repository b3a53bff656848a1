use Rattle.std.proofs.Common.{◌∙◌, ap}
use Rattle.audit_topology.specs.Parts.{is_in}
use Rattle.audit_topology.proofs.parts.is_in_part.Goals as goal

pub returns : goal.returns
returns g c = c.is_in.ensures ∙ ap (is_in c.args.router) (c.deref.ensures.value ∙ c.part.view_is)
