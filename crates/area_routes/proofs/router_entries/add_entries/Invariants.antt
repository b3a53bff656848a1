use Rattle.std.proofs.Common.{◌≡◌, take}
use Rattle.area_routes.specs.Entries.{area_entries}
use Rattle.area_routes.specs.steps.Growing.{with_entries}
use Rattle.area_routes.proofs.router_entries.add_entries.Given as goal

abbrev pub invariant-loop-vertex : goal.invariant-loop-vertex
invariant-loop-vertex g l = l.area ≡ with_entries l.initial.area (area_entries l.initial.area.area l.root (take l.vertex-index l.reached))
