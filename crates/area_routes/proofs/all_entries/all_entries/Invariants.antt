use Rattle.std.proofs.Common.{◌≡◌, ◌^◌, take}
use Rattle.std.specs.List.{All}
use Rattle.area_routes.specs.Inter.{entries_of_all}
use Rattle.area_routes.specs.Values.{ResultBelow}
use Rattle.area_routes.proofs.all_entries.all_entries.Given as goal

abbrev pub invariant-loop-area : goal.invariant-loop-area
invariant-loop-area g l = (l.all.items ≡ entries_of_all (take l.area-index l.results)) × All (ResultBelow (2 ^ 33)) (take l.area-index l.results)
