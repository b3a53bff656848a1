use Rattle.std.proofs.Common.{◌∙◌, ap}
use Rattle.lsdb.specs.Slots.{lists_of}
use Rattle.audit_areas.specs.Areas.{AreaValue, audited_area, edges_in, has_edge, lsas_in}
use Rattle.audit_areas.proofs.area.AuditedArea.has_edge.Goals as goal

pub returns : goal.returns
returns g c =
    c.has_edge.ensures (lsas_in (audited_area (lists_of c.self.inside.database.now) c.self.inside.area)) c.self.invariant.graph_of
    ∙ ap (λ (a : AreaValue). has_edge (edges_in a) c.args.vertex) c.self.view_is
