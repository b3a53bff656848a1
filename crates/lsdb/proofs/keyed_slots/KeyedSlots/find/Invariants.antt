use Rattle.std.proofs.Common.{◌≡◌, false}
use Rattle.std.specs.Prelude.{All}
use Rattle.lsa_codec.specs.declared.key.Key.{Key}
use Rattle.lsdb.specs.declared.slot_index.SlotOf.{SlotOf}
use Rattle.lsdb.specs.Slots.{item_at}
use Rattle.lsdb.specs.steps.OneSlot.{some_has_key}
use Rattle.lsdb.proofs.keyed_slots.KeyedSlots.find.Given as goal

-- the LSA has not stood at any of the slots so far
abbrev pub invariant-loop-noted : goal.invariant-loop-noted
invariant-loop-noted g l = All (λ (p : SlotOf Key). some_has_key l.key (item_at l.self p.index) ≡ false) l.yielded
