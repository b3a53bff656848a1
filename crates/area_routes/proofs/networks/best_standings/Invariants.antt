use Rattle.std.proofs.Common.{take}
use Rattle.area_routes.specs.Networks.{networks}
use Rattle.area_routes.specs.steps.Standings.{AreStandingsOf}
use Rattle.area_routes.proofs.networks.best_standings.Given as goal

abbrev pub invariant-loop-vertex : goal.invariant-loop-vertex
invariant-loop-vertex g l = AreStandingsOf (networks (take l.vertex-index l.reached)) l.standings
