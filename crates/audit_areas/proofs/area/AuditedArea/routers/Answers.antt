use Rattle.std.proofs.Common.{◌∙◌, ap}
use Rattle.audit_areas.specs.Areas.{routers_in}
use Rattle.audit_areas.proofs.area.AuditedArea.routers.Goals as goal

pub returns : goal.returns
returns g c = c.as_slice.ensures.value ∙ c.self.invariant.routers_are ∙ ap routers_in c.self.view_is
