use Rattle.std.proofs.Common.{◌≡◌, take}
use Rattle.std.specs.Prelude.{flat_map}
use Rattle.std.specs.List.{sum_by}
use Rattle.comparison.specs.Named.{names_of, unchanged_of}
use Rattle.comparison.proofs.all_changes.changes_for.Given as goal

-- what differs for the routers so far
abbrev pub invariant-loop-router : goal.invariant-loop-router
invariant-loop-router g l =
    (l.names.items ≡ flat_map (names_of l.comparison) (take l.router-index l.routers))
    × (l.unchanged ≡ sum_by (unchanged_of l.comparison) (take l.router-index l.routers))
