use Rattle.std.proofs.Common.{◌∙◌}
use Rattle.audit_topology.specs.Parts.{place_of_parts}
use Rattle.audit_topology.proofs.split_areas.split_in.Goals as goal

pub returns : goal.returns
returns g c = c.place_of_parts.ensures ∙ λ i. place_of_parts (c.area.ensures i) (c.in_ok-parts.ensures i)
