use Rattle.std.proofs.Common.{◌≡◌, take}
use Rattle.std.specs.List.{flat_map}
use Rattle.area_routes.specs.Networks.{networks}
use Rattle.area_routes.specs.steps.Standings.{unbeaten}
use Rattle.area_routes.specs.steps.Growing.{with_offers}
use Rattle.area_routes.proofs.networks.add_networks.Given as goal

abbrev pub invariant-loop-vertex : goal.invariant-loop-vertex
invariant-loop-vertex g l = l.ways ≡ with_offers l.initial.ways (flat_map (unbeaten (networks l.reached)) (take l.vertex-index l.reached))
