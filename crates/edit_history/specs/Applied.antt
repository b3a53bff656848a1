-- What carrying out an edit leaves, and the contents of its record.
use Rattle.std.specs.Prelude.{◌≡◌, ◌≢◌, false, List, length, map, unwrap_or, None, Ok, Err, IsOk}
use Rattle.lsa_codec.specs.declared.address.AreaId.{AreaId}
use Rattle.lsdb.specs.Slots.{Slots, slot_at, lists_of}
use Rattle.edit_script.specs.declared.edit.Edit.{Edit}
use Rattle.edit_script.specs.Spelling.{is_event}
use Rattle.edit_history.specs.declared.fault.EditFault.{EditFault}
use Rattle.edit_history.specs.declared.fault.EditFault.TheVariants.{OutOfMemory}
use Rattle.edit_history.specs.Rules.{Change}
use Rattle.edit_history.specs.Effect.{effect, changes, touched}
use Rattle.edit_history.specs.Exchange.{SwapData, RecordData, CanDo, CanUndo, done_slots, done_swaps, undone_slots, touches}
use Rattle.edit_history.specs.Grown.{Grown}

-- the change of a swap that is done: the swap holds the old bytes, and the new ones are at its slot
abbrev pub swap_change : Slots → SwapData → Change
swap_change e s = record { section = s.section; kind = s.kind; old = s.other; new = unwrap_or (slot_at e s.slot) None }

-- the swaps carry the edit out, and then have its changes
pub record CarriesOut (d : Slots) (edit : Edit) (swaps : List SwapData) : Type 0 where
  pub can : CanDo d swaps
  pub leads : effect (lists_of d) edit ≡ Ok (lists_of (done_slots d swaps))
  pub reports : changes (lists_of d) edit ≡ Ok (map (swap_change (done_slots d swaps)) (done_swaps d swaps))

-- the swaps carry the edit out, once slots were opened for them
pub record Planned (d e : Slots) (edit : Edit) (swaps : List SwapData) : Type 0 where
  pub opens : Grown d e
  pub carries : CarriesOut e edit swaps

-- the edit led to this database; the swaps have its changes, and take it back
pub record TakesBack (e : Slots) (edit : Edit) (swaps : List SwapData) : Type 0 where
  pub can : CanUndo e swaps
  pub leads : effect (lists_of (undone_slots e swaps)) edit ≡ Ok (lists_of e)
  pub reports : changes (lists_of (undone_slots e swaps)) edit ≡ Ok (map (swap_change e) swaps)

-- the edit led from d to e; the record holds the edit and has its changes, and undoing it leads back to
-- d, except for slots that were opened at the ends of sections
pub record Applied (d e : Slots) (edit : Edit) (r : RecordData) : Type 0 where
  pub same : r.edit ≡ edit
  pub leads : effect (lists_of d) edit ≡ Ok (lists_of e)
  pub reports : changes (lists_of d) edit ≡ Ok (map (swap_change e) r.swaps)
  pub can : CanUndo e r.swaps
  pub before : Grown d (undone_slots e r.swaps)

-- the edit is refused with this fault; memory ran out only for an edit that would be carried out, unless it is an event
pub record IsRefused (d : Slots) (edit : Edit) (fault : EditFault) : Type 0 where
  pub known : fault ≢ OutOfMemory → effect (lists_of d) edit ≡ Err fault
  pub memory : is_event edit ≡ false → fault ≡ OutOfMemory → IsOk (effect (lists_of d) edit)

-- the record counts the changes, and touches the areas that they touch
pub record Reports (r : RecordData) (cs : List Change) : Type 0 where
  pub count : length r.swaps ≡ length cs
  pub areas : (area : AreaId) → touches area r ≡ touched area cs
