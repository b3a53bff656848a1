-- Records of one slot, and the LSA that the database lacks there.
use Rattle.std.specs.Prelude.{◌≡◌, ℕ, List, [], ◌∷◌, Some}
use Rattle.lsdb.specs.declared.slot.SlotId.{SlotId}
use Rattle.edit_history.specs.Exchange.{SwapData, RecordData}

-- the record is of this slot alone, and holds this LSA
pub record HoldsOne (r : RecordData) (slot : SlotId) (lsa : List ℕ) : Type 0 where
  pub swap : SwapData
  pub alone : r.swaps ≡ swap ∷ []
  pub same_slot : swap.slot ≡ slot
  pub held : swap.other ≡ Some lsa
