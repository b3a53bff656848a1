use Rattle.std.proofs.Common.{◌∙◌, ap}
use Rattle.audit_areas.specs.Areas.{AreaValue, router_lsa_in}
use Rattle.audit_areas.proofs.area.AuditedArea.router_lsa.Goals as goal

pub returns : goal.returns
returns g c = c.router_lsa_of.ensures ∙ ap (λ (a : AreaValue). router_lsa_in a c.args.router) c.self.view_is
