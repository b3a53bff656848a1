use Rattle.std.proofs.Common.{List, ap, ◌∙◌}
use Rattle.std.specs.List.{flat_map}
use Rattle.std.proofs.lemmas.List.{take_all}
use Rattle.area_routes.specs.Values.{OfferValue}
use Rattle.area_routes.specs.Reached.{ReachedValue}
use Rattle.area_routes.specs.steps.Growing.{with_offers}
use Rattle.area_routes.specs.Networks.{networks}
use Rattle.area_routes.specs.steps.Standings.{unbeaten}
use Rattle.area_routes.proofs.Beaten.{unbeaten_offers}
use Rattle.area_routes.proofs.networks.add_networks.Goals as goal

pub returns : goal.returns
returns g c =
    let rs = c.args.reached.now in
    c.loop-vertex.invariant ∙ ap (λ (xs : List ReachedValue). with_offers c.args.ways.now (flat_map (unbeaten (networks rs)) xs))
    (take_all c.loop-vertex.vertex-index rs c.loop-vertex-test.false)
    ∙ ap (λ (os : List OfferValue). with_offers c.args.ways.now os) (unbeaten_offers (networks rs) rs)
