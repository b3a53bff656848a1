-- Room for a new LSA.
use Rattle.std.proofs.Common.{◌≡◌, ◌≢◌, ℕ, Bool, true, false, Result, Err, refl, ap, ◌∙◌}
use Rattle.std.specs.Prelude.{if◌then◌else◌}
use Rattle.std.specs.List.{list_any}
use Rattle.lsa_codec.specs.declared.key.Key.{Key}
use Rattle.lsdb.specs.declared.section.Section.{Section}
use Rattle.lsdb.specs.Lists.{Lists, has_key, lsas_of}
use Rattle.edit_history.specs.declared.fault.EditFault.{EditFault}
use Rattle.edit_history.specs.declared.fault.EditFault.TheVariants.{KeyTaken, Full, OutOfMemory}
use Rattle.edit_history.specs.Effect.{is_full, room_for, has_room}

abbrev room_by : Bool → Bool → Result (Unit {0}) EditFault
room_by taken full = if taken then Err KeyTaken else if full then Err Full else has_room

pub taken : (db : Lists) (name : Section) (key : Key) (byte_count : ℕ) → list_any (has_key key) (lsas_of name db) ≡ true
    → room_for db name key byte_count ≡ Err KeyTaken
taken db name key byte_count is = ap (λ (b : Bool). room_by b (is_full db name byte_count)) is

pub full : (db : Lists) (name : Section) (key : Key) (byte_count : ℕ) → list_any (has_key key) (lsas_of name db) ≡ false → is_full db name byte_count ≡ true
    → room_for db name key byte_count ≡ Err Full
full db name key byte_count free is = ap (λ (b : Bool). room_by b (is_full db name byte_count)) free ∙ ap (room_by false) is

pub room : (db : Lists) (name : Section) (key : Key) (byte_count : ℕ) → list_any (has_key key) (lsas_of name db) ≡ false → is_full db name byte_count ≡ false
    → room_for db name key byte_count ≡ has_room
room db name key byte_count free is = ap (λ (b : Bool). room_by b (is_full db name byte_count)) free ∙ ap (room_by false) is

no_memory_by : (t f : Bool) (fault : EditFault) → room_by t f ≡ Err fault → fault ≢ OutOfMemory
no_memory_by true f fault is = λ memory. let e : (let r : Result (Unit {0}) EditFault = Err KeyTaken in r) ≡ Err OutOfMemory =
    is ∙ ap (λ (g : EditFault). let r : Result (Unit {0}) EditFault = Err g in r) memory in cc
no_memory_by false true fault is = λ memory. let e : (let r : Result (Unit {0}) EditFault = Err Full in r) ≡ Err OutOfMemory =
    is ∙ ap (λ (g : EditFault). let r : Result (Unit {0}) EditFault = Err g in r) memory in cc
no_memory_by false false fault is = absurd cc

-- a lack of room does not mean that memory ran out
pub room_not_memory : (db : Lists) (name : Section) (key : Key) (byte_count : ℕ) (fault : EditFault) → room_for db name key byte_count ≡ Err fault
    → fault ≢ OutOfMemory
room_not_memory db name key byte_count fault is = no_memory_by (list_any (has_key key) (lsas_of name db)) (is_full db name byte_count) fault is

-- what room means
pub record IsRoom (db : Lists) (name : Section) (key : Key) (byte_count : ℕ) : Type 0 where
  pub free : list_any (has_key key) (lsas_of name db) ≡ false
  pub fits : is_full db name byte_count ≡ false

room_parts : (t f : Bool) → room_by t f ≡ has_room → (t ≡ false) × (f ≡ false)
room_parts true f is = absurd cc
room_parts false true is = absurd cc
room_parts false false is = (refl, refl)

pub is_room : (db : Lists) (name : Section) (key : Key) (byte_count : ℕ) → room_for db name key byte_count ≡ has_room → IsRoom db name key byte_count
is_room db name key byte_count is = let p = room_parts (list_any (has_key key) (lsas_of name db)) (is_full db name byte_count) is in
    record { free = p.0; fits = p.1 }
