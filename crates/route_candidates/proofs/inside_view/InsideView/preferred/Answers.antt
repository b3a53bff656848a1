use Rattle.std.proofs.Common.{◌<◌, ◌^◌}
use Rattle.external_routes.specs.Choose.{is_asbr, preference}
use Rattle.route_candidates.proofs.Least.{first_has}
use Rattle.route_candidates.proofs.inside_view.InsideView.preferred.Goals as goal

pub returns-clause-small : goal.returns-clause-small
returns-clause-small g c =
    first_has preference (λ e. e.cost < 2 ^ 34) (is_asbr c.args.boundary) c.as_slice.result.now c.preferred.result
    c.as_slice.ensures.small c.preferred.ensures
