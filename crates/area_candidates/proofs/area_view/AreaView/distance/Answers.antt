use Rattle.std.proofs.Common.{ap, ◌∙◌}
use Rattle.area_candidates.specs.Views.{AreaViewValue, distance_in}
use Rattle.area_candidates.proofs.Viewing.{distance_at, no_distance}
use Rattle.area_candidates.proofs.area_view.AreaView.distance.Goals as goal

pub returns-in_err-index-clause-distance : goal.returns-in_err-index-clause-distance
returns-in_err-index-clause-distance g c =
    c.from_residual.ensures
    ∙ no_distance _ c.self.inside.graph c.self.inside.tree c.self.invariant c.args.vertex c.in_err-index.ensures.absent
    ∙ ap (λ (v : AreaViewValue). distance_in v c.args.vertex) c.self.view_is

pub returns-clause-distance : goal.returns-clause-distance
returns-clause-distance g c =
    c.distance.ensures.value
    ∙ distance_at _ c.self.inside.graph c.self.inside.tree c.self.invariant c.in_ok-index.index c.args.vertex c.in_ok-index.ensures.number
    ∙ ap (λ (v : AreaViewValue). distance_in v c.args.vertex) c.self.view_is
