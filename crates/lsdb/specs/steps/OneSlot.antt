-- One slot: its LSA, its bytes, and the first that passes a test.
use Rattle.std.specs.Prelude.{◌≡◌, Bool, false, ℕ, List, length, Option, Some, None, IsSome}
use Rattle.std.specs.List.{find}
use Rattle.lsa_codec.specs.declared.key.Key.{Key}
use Rattle.lsa_codec.specs.Making.{IsRewriteOf}
use Rattle.lsdb.specs.Lists.{has_key}
use Rattle.lsdb.specs.Slots.{Slot, item_at, full}

abbrev pub slot_has_key : Key → Slot → Bool
slot_has_key key None = false
slot_has_key key (Some lsa) = has_key key lsa

-- and where there may be no such slot
abbrev pub some_has_key : Key → Option Slot → Bool
some_has_key key None = false
some_has_key key (Some slot) = slot_has_key key slot

-- the bytes that a slot takes in the dump
abbrev pub slot_size : Slot → ℕ
slot_size None = 0
slot_size (Some lsa) = length lsa

-- a slot is emptied, or takes an LSA that may stand for the one there
abbrev pub IsPutSafe : Slot → Slot → Type 0
IsPutSafe old None = Unit {0}
IsPutSafe None (Some new) = ⊥
IsPutSafe (Some old) (Some new) = IsRewriteOf old new

-- the index of the first of these slots whose LSA passes a test
pub record IsFirstIndex (slots : List Slot) (test : List ℕ → Bool) (index : ℕ) : Type 0 where
  pub held : item_at slots index ≡ Some (find test (full slots))
  pub found : IsSome (find test (full slots))
