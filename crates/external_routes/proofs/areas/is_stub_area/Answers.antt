use Rattle.std.proofs.Common.{◌&&◌, rules}
use Rattle.external_routes.specs.Summaries.{is_head_of_area}
use Rattle.external_routes.proofs.areas.is_stub_area.Goals as goal

pub returns : goal.returns
returns g c = c.any_area.ensures (λ head. head.is_stub && is_head_of_area c.args.area head) (λ other is_stub answer says. search rules)
