use Rattle.std.proofs.Common.{◌≡◌, take}
use Rattle.std.specs.List.{flat_map}
use Rattle.lsdb.specs.Slots.{lists_of}
use Rattle.refusal_hints.specs.Described.{ids_in}
use Rattle.refusal_hints.proofs.described.described.Given as goal

-- those of the areas so far
abbrev pub invariant-loop-area : goal.invariant-loop-area
invariant-loop-area g l = l.ids.items ≡ flat_map (ids_in (lists_of l.database) l.kind) (take l.area-index l.areas)
