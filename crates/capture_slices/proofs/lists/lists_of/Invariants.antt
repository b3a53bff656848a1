use Rattle.std.proofs.Common.{map, take}
use Rattle.std.specs.List.{AllZip}
use Rattle.capture_slices.specs.Captured.{IsListOf}
use Rattle.capture_slices.proofs.lists.lists_of.Given as goal

abbrev pub invariant-loop-list : goal.invariant-loop-list
invariant-loop-list g l = AllZip IsListOf (take l.list-index (map (λ file. file.bytes.now) l.lists)) l.read.items
