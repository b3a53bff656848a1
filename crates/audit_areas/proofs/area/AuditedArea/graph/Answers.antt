use Rattle.std.proofs.Common.{subst}
use Rattle.area_graph.specs.Graphs.{IsGraphOf}
use Rattle.audit_areas.specs.Areas.{AreaValue, lsas_in}
use Rattle.audit_areas.proofs.area.AuditedArea.graph.Goals as goal

pub returns : goal.returns
returns g c = subst (λ (a : AreaValue). IsGraphOf (lsas_in a) c.self.inside.graph) c.self.view_is c.self.invariant.graph_of
