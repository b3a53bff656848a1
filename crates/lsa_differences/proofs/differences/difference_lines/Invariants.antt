use Rattle.std.proofs.Common.{◌≡◌, take}
use Rattle.std.specs.List.{flat_map}
use Rattle.lsdb.specs.Slots.{lists_of}
use Rattle.lsa_differences.specs.Differences.{area_lines, live_of}
use Rattle.lsa_differences.proofs.differences.difference_lines.Given as goal

-- the areas so far
abbrev pub invariant-loop-area : goal.invariant-loop-area
invariant-loop-area g l =
    l.lines.items ≡ flat_map (area_lines (live_of (lists_of l.baseline)) (live_of (lists_of l.now))) (take l.area-index l.area-items)
