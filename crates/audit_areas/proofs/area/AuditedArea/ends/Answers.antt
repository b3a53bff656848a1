use Rattle.std.proofs.Common.{◌∙◌, ap}
use Rattle.std.proofs.lemmas.Result.{IfOk-weaker}
use Rattle.lsdb.specs.Slots.{lists_of}
use Rattle.audit_areas.specs.Areas.{AreaValue, audited_area, edges_in, has_end, lsas_in}
use Rattle.audit_areas.proofs.area.AuditedArea.ends.Goals as goal

pub returns : goal.returns
returns g c =
    IfOk-weaker c.ends_from.result _ _
    (λ ends are. λ test.
    are (lsas_in (audited_area (lists_of c.self.inside.database.now) c.self.inside.area)) c.self.invariant.graph_of test
    ∙ ap (λ (a : AreaValue). has_end (edges_in a) c.args.vertex test) c.self.view_is)
    c.ends_from.ensures
