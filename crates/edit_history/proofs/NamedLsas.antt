-- The LSAs that an edit names.
use Rattle.std.proofs.Common.{◌≡◌, ◌≢◌, ℕ, List, Option, Some, None, Result, Ok, Err, refl, sym, ap, ◌∙◌, subst, rules}
use Rattle.std.specs.Prelude.{IsSome}
use Rattle.std.specs.List.{find}
use Rattle.lsa_codec.specs.declared.address.AreaId.{AreaId}
use Rattle.lsa_codec.specs.declared.address.RouterId.{RouterId}
use Rattle.lsa_codec.specs.declared.key.Key.{Key}
use Rattle.lsa_codec.specs.Fields.{kind_of}
use Rattle.lsa_codec.specs.Key.{key_of, router_key}
use Rattle.lsdb.specs.declared.section.Section.{Section}
use Rattle.lsdb.specs.declared.section.Section.TheVariants.{Area}
use Rattle.lsdb.specs.declared.slot.SlotId.{SlotId}
use Rattle.lsdb.specs.Lists.{SectionLsas, Lists, is_section, has_key, lsas_of}
use Rattle.lsdb.specs.Slots.{Slot, Slots, slot_at, lists_of, lsas_or_none, IsNamed, IsSlotOf}
use Rattle.lsdb.proofs.KeyLemmas.{same_key_true}
use Rattle.edit_script.specs.declared.edit.Edit.{Edit}
use Rattle.edit_history.specs.declared.fault.EditFault.{EditFault}
use Rattle.edit_history.specs.declared.fault.EditFault.TheVariants.{NoArea, NoRouter, OutOfMemory}
use Rattle.edit_history.specs.Rules.{Rule}
use Rattle.edit_history.specs.Effect.{router_lsa_in, router_lsa_of, rule_of, area_of, or_refused, ◌>>=◌}
use Rattle.edit_history.specs.Applied.{IsRefused}
use Rattle.edit_history.specs.steps.Plans.{IsFirstLsa}
use Rattle.edit_history.proofs.Keys.{found_passes}
use Rattle.edit_history.proofs.RulesCarriedOut.{refused_as, on_err}

-- ---- the area

pub no_area : (db : Lists) (area : AreaId) → find (is_section (Area area)) db ≡ None → area_of db area ≡ Err NoArea
no_area db area none = ap (λ (o : Option SectionLsas). or_refused NoArea o) none

-- an edit that begins with an area that is not there
pub no_area_refused : (d : Slots) (edit : Edit) (area : AreaId) (rest : SectionLsas → Result Rule EditFault) (fault : EditFault)
    → rule_of (lists_of d) edit ≡ (area_of (lists_of d) area >>= rest) → fault ≡ NoArea → find (is_section (Area area)) (lists_of d) ≡ None
    → IsRefused d edit fault
no_area_refused d edit area rest fault row is none =
    subst (λ (f : EditFault). IsRefused d edit f) (sym is)
    (refused_as d edit NoArea (λ e. cc) (row ∙ on_err (area_of (lists_of d) area) NoArea rest (no_area (lists_of d) area none)))

-- the area, where it is there
pub record HasArea (db : Lists) (area : AreaId) : Type 0 where
  pub section : SectionLsas
  pub found : find (is_section (Area area)) db ≡ Some section
  pub is : area_of db area ≡ Ok section
  pub lsas : lsas_of (Area area) db ≡ section.lsas

pub has_area : (db : Lists) (area : AreaId) → IsSome (find (is_section (Area area)) db) → HasArea db area
has_area db area some = by_answer (find (is_section (Area area)) db) refl some where
  by_answer : (o : Option SectionLsas) → find (is_section (Area area)) db ≡ o → IsSome o → HasArea db area
  by_answer None is some = absurd (search rules)
  by_answer (Some s) is some =
      record { section = s; found = is; is = ap (λ (o : Option SectionLsas). or_refused NoArea o) is; lsas = ap lsas_or_none is }

pub named_there : (d : Slots) (name : Section) (i : ℕ) → IsNamed d name i → IsSome (find (is_section name) (lists_of d))
named_there d name i named = subst (λ (o : Option SectionLsas). IsSome o) named.same named.exists

-- ---- the router-LSA

abbrev pub router_lsa_after : RouterId → Result SectionLsas EditFault → Result (List ℕ) EditFault
router_lsa_after router s = s >>= λ section. router_lsa_in section router

pub no_router_in : (db : Lists) (area : AreaId) (router : RouterId) (section : SectionLsas) → lsas_of (Area area) db ≡ section.lsas
    → find (has_key (router_key router)) (lsas_of (Area area) db) ≡ None → router_lsa_in section router ≡ Err NoRouter
no_router_in db area router section lsas none = ap (or_refused NoRouter) (ap (find (has_key (router_key router))) (sym lsas) ∙ none)

pub router_in : (db : Lists) (area : AreaId) (router : RouterId) (section : SectionLsas) (lsa : List ℕ) → lsas_of (Area area) db ≡ section.lsas
    → find (has_key (router_key router)) (lsas_of (Area area) db) ≡ Some lsa → router_lsa_in section router ≡ Ok lsa
router_in db area router section lsa lsas first = ap (or_refused NoRouter) (ap (find (has_key (router_key router))) (sym lsas) ∙ first)

pub router_lsa_is : (d : Slots) (area : AreaId) (router : RouterId) (slot : SlotId) (lsa : List ℕ)
    → IsFirstLsa d (Area area) (has_key (router_key router)) slot lsa → router_lsa_of (lists_of d) area router ≡ Ok lsa
router_lsa_is d area router slot lsa at =
    let h = has_area (lists_of d) area (named_there d (Area area) slot.section at.named) in
    ap (router_lsa_after router) h.is ∙ router_in (lists_of d) area router h.section lsa h.lsas at.first

-- ---- what was found

pub same_slot : (o : Slot) (lsa : List ℕ) (p : Option Slot) → p ≡ Some o → p ≡ Some (Some lsa) → o ≡ Some lsa
same_slot o lsa p is held = let two : (let q : Option Slot = Some o in q) ≡ Some (Some lsa) = sym is ∙ held in cc

-- the LSA of a key that was found, and read at its slot
pub first_of_key : (d : Slots) (name : Section) (key named_key : Key) (slot : SlotId) (lsa : List ℕ) → key ≡ named_key → IsSlotOf d name key slot
    → slot_at d slot ≡ Some (Some lsa) → IsFirstLsa d name (has_key named_key) slot lsa
first_of_key d name key named_key slot lsa is at_slot held = record {
  named = at_slot.named;
  first = ap (λ (k : Key). find (has_key k) (lsas_of name (lists_of d))) (sym is)
      ∙ same_slot (find (has_key key) (lsas_of name (lists_of d))) lsa (slot_at d slot) at_slot.held held;
  held = held;
}

pub key_is : (d : Slots) (name : Section) (key : Key) (slot : SlotId) (lsa : List ℕ) → IsFirstLsa d name (has_key key) slot lsa → key_of lsa ≡ key
key_is d name key slot lsa at = same_key_true (key_of lsa) key (found_passes (has_key key) (lsas_of name (lists_of d)) lsa at.first)

pub kind_is : (d : Slots) (name : Section) (key : Key) (slot : SlotId) (lsa : List ℕ) → IsFirstLsa d name (has_key key) slot lsa
    → kind_of lsa ≡ key.kind
kind_is d name key slot lsa at = ap (λ (k : Key). k.kind) (key_is d name key slot lsa at)

-- a missing router-LSA does not mean that memory ran out
not_memory_in : (o : Slot) (fault : EditFault) → or_refused NoRouter o ≡ Err fault → fault ≢ OutOfMemory
not_memory_in None fault is = λ memory. let e : (let r : Result (List ℕ) EditFault = Err NoRouter in r) ≡ Err OutOfMemory =
    is ∙ ap (λ (f : EditFault). let r : Result (List ℕ) EditFault = Err f in r) memory in cc
not_memory_in (Some lsa) fault is = absurd cc

pub not_memory : (db : Lists) (area : AreaId) (router : RouterId) (fault : EditFault) → router_lsa_of db area router ≡ Err fault → fault ≢ OutOfMemory
not_memory db area router fault is = by_section (find (is_section (Area area)) db) is where
  by_section : (o : Option SectionLsas) → router_lsa_after router (or_refused NoArea o) ≡ Err fault → fault ≢ OutOfMemory
  by_section None is = λ memory. let e : (let r : Result (List ℕ) EditFault = Err NoArea in r) ≡ Err OutOfMemory =
      is ∙ ap (λ (f : EditFault). let r : Result (List ℕ) EditFault = Err f in r) memory in cc
  by_section (Some s) is = not_memory_in (find (has_key (router_key router)) s.lsas) fault is
