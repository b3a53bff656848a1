use Rattle.std.proofs.Common.{◌≡◌, ◌∷◌, [], ◌++◌, min, length, take}
use Rattle.std.specs.List.{flat_map}
use Rattle.test_support.specs.Dumps.{area_bytes}
use Rattle.test_support.proofs.list.dump_of.Given as goal

abbrev pub invariant-loop-id : goal.invariant-loop-id
invariant-loop-id l =
    l.dump.items ≡ (0x4f ∷ 0x53 ∷ 0x57 ∷ 0x50 ∷ 1 ∷ min (length l.areas) 255 ∷ []) ++ flat_map area_bytes (take l.id-index l.areas)
