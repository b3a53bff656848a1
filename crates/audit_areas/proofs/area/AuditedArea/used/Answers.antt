use Rattle.std.proofs.Common.{◌∙◌, ap}
use Rattle.std.proofs.lemmas.Result.{IfOk-weaker}
use Rattle.area_graph.specs.Area.{used}
use Rattle.audit_areas.specs.Areas.{lsas_in}
use Rattle.audit_areas.proofs.area.AuditedArea.used.Goals as goal

pub returns : goal.returns
returns g c =
    IfOk-weaker c.used_lsas.result _ _ (λ lsas is. is ∙ ap used (c.lsas.ensures.lsas ∙ ap lsas_in c.self.view_is)) c.used_lsas.ensures
