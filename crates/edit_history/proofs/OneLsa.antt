-- One LSA is rewritten or removed.
use Rattle.std.proofs.Common.{◌≡◌, ℕ, Bool, true, false, List, [], ◌∷◌, ◌++◌, Option, Some, None, Ok, refl, sym, ap, ◌∙◌, subst}
use Rattle.std.specs.Prelude.{All, AllPairs, IsSome, unwrap_or, if◌then◌else◌}
use Rattle.lsa_codec.specs.declared.key.Key.{Key}
use Rattle.lsa_codec.specs.Fields.{kind_of}
use Rattle.lsa_codec.specs.Key.{key_of}
use Rattle.lsdb.specs.declared.section.Section.{Section}
use Rattle.lsdb.specs.declared.slot.SlotId.{SlotId}
use Rattle.lsdb.specs.Lists.{AreaHead, Lists, IsDatabase, IsSection, IsBefore, heads_of, is_section, is_head_of}
use Rattle.lsdb.specs.Slots.{Slot, Slots, slot_at, put, lists_of, IsNamed}
use Rattle.lsdb.proofs.KeyLemmas.{own_key}
use Rattle.lsdb.proofs.SlotLemmas.{slot_at-put}
use Rattle.lsdb.proofs.ListLemmas.{all_at_mid}
use Rattle.lsdb.proofs.SlotLemmas.{section_with, between}
use Rattle.edit_script.specs.declared.edit.Edit.{Edit}
use Rattle.edit_history.specs.Rules.{Fate, stays, Change, section_name, one_lsa, lists_after, changes_by}
use Rattle.edit_history.specs.Effect.{rule_of}
use Rattle.edit_history.specs.Exchange.{SwapData}
use Rattle.edit_history.specs.Applied.{Planned}
use Rattle.edit_history.proofs.Keys.{found_passes, only_key, only_section, name_is}
use Rattle.edit_history.proofs.RuleOutcomes.{TouchesOne, fate_of, one_after, one_change}
use Rattle.edit_history.proofs.RulesCarriedOut.{CarriesOutRule, planned_here}

-- ---- the rule touches this LSA alone

both : (a b : Bool) (f : Fate) → a ≡ true → b ≡ true → (if a then (if b then f else stays) else stays) ≡ f
both true true f p q = refl
both false b f p q = absurd cc
both true false f p q = absurd cc

not_first : (a b : Bool) (f : Fate) → a ≡ false → (if a then (if b then f else stays) else stays) ≡ stays
not_first false b f p = refl
not_first true b f p = absurd cc

not_second : (a b : Bool) (f : Fate) → b ≡ false → (if a then (if b then f else stays) else stays) ≡ stays
not_second a true f p = absurd cc
not_second true false f p = refl
not_second false false f p = refl

only_one : (name : Section) (key : Key) (x : List ℕ) (other : Slot) (low high : Lists) (area : Option AreaHead) (front back : List (List ℕ))
    → let s = section_with area (front ++ x ∷ back) in
    AllPairs IsBefore (heads_of (low ++ s ∷ high)) → IsSection s → is_head_of name area ≡ true → key_of x ≡ key
    → TouchesOne (one_lsa name key (fate_of other)).fates low high area front back x other
only_one name key x other low high area front back order section named is =
    let s = section_with area (front ++ x ∷ back) in
    let sections = only_section name low high s order named in
    let keys = only_key key front back x section.keys.distinct is in
    record {
      below = λ k d lt. λ j e within. not_first _ _ (fate_of other) (sections.below k d lt);
      above = λ k d lt. λ j e within. not_first _ _ (fate_of other) (sections.above k d lt);
      before = λ k d lt. not_second _ _ (fate_of other) (keys.before k d lt);
      beyond = λ k d lt. not_second _ _ (fate_of other) (keys.after k d lt);
      here = both _ _ (fate_of other) named (own_key key x is);
    }

-- ---- the change of its swap

abbrev change_at : Section → ℕ → Option Slot → Option Slot → Change
change_at section kind old new = record { section = section; kind = kind; old = unwrap_or old None; new = unwrap_or new None }

reported_one : (here section : Section) (this kind : ℕ) (old now : Option Slot) (x : List ℕ) (other : Slot) → here ≡ section → this ≡ kind
    → old ≡ Some (Some x) → now ≡ Some other
    → change_at here this old now ≡ change_at section kind (Some (Some x)) (Some other)
reported_one here section this kind old now x other p q before after =
    ap (λ (s : Section). change_at s this old now) p
    ∙ ap (λ (k : ℕ). change_at section k old now) q
    ∙ ap (λ (o : Option Slot). change_at section kind o now) before
    ∙ ap (λ (o : Option Slot). change_at section kind (Some (Some x)) o) after

-- ---- the swap

abbrev pub one_swap : SlotId → Section → ℕ → Slot → SwapData
one_swap slot name kind other = record { slot = slot; section = name; kind = kind; other = other }

-- an LSA of a section gives its slot to another, or leaves it
pub exchanged : (d : Slots) (name : Section) (key : Key) (slot : SlotId) (lsa : List ℕ) (other : Slot) → IsDatabase (lists_of d)
    → IsNamed d name slot.section → slot_at d slot ≡ Some (Some lsa) → key_of lsa ≡ key
    → IsDatabase (lists_of (put d slot other)) → CarriesOutRule d (one_lsa name key (fate_of other)) (one_swap slot name key.kind other ∷ [])
exchanged d name key slot lsa other sound named held is next =
    let w = between d slot (Some lsa) other held in
    let rule = one_lsa name key (fate_of other) in
    let s = section_with w.area (w.front ++ lsa ∷ w.back) in
    let in_section : is_head_of name w.area ≡ true = found_passes (is_section name) (lists_of d) s (sym named.same ∙ w.here) in
    let order : AllPairs IsBefore (heads_of (w.low ++ s ∷ w.high)) = subst
    (λ (db : Lists). AllPairs IsBefore (heads_of db)) w.before sound.heads.order in
    let section : IsSection s = all_at_mid IsSection w.low w.high s (subst (All IsSection) w.before sound.sections) in
    let t = only_one name key lsa other w.low w.high w.area w.front w.back order section in_section is in
    let now : slot_at (put d slot other) slot ≡ Some other = slot_at-put d slot other (Some lsa) held in
    record {
      can = (subst (λ (o : Option Slot). IsSome o) (sym held) refl, next, tt);
      leads = ap (lists_after rule) w.before ∙ one_after rule.fates w.low w.high w.area w.front w.back lsa other t ∙ sym w.after;
      reports =
          ap (changes_by rule) w.before
          ∙ one_change rule.fates w.low w.high w.area w.front w.back lsa other t
          ∙ ap (λ (c : Change). c ∷ [])
          (sym (reported_one name (section_name w.area) key.kind (kind_of lsa) (slot_at d slot) (slot_at (put d slot other) slot) lsa other
          (name_is name w.area in_section) (sym (ap (λ (k : Key). k.kind) is)) held now));
    }

-- the plan of an edit that touches one LSA
pub planned_one : (d : Slots) (edit : Edit) (name : Section) (key : Key) (slot : SlotId) (lsa : List ℕ) (other : Slot) (kind : ℕ) (swap : SwapData)
    (items : List SwapData) → IsDatabase (lists_of d) → IsNamed d name slot.section → slot_at d slot ≡ Some (Some lsa)
    → key_of lsa ≡ key → key.kind ≡ kind → IsDatabase (lists_of (put d slot other))
    → rule_of (lists_of d) edit ≡ Ok (one_lsa name key (fate_of other)) → swap ≡ one_swap slot name kind other → items ≡ swap ∷ []
    → Planned d d edit items
planned_one d edit name key slot lsa other kind swap items sound named held is kind_is next ruled swap_is items_is =
    planned_here d edit (one_lsa name key (fate_of other)) (one_swap slot name key.kind other ∷ []) items ruled
    (exchanged d name key slot lsa other sound named held is next)
    (items_is ∙ ap (λ (s : SwapData). s ∷ []) (swap_is ∙ ap (λ (k : ℕ). one_swap slot name k other) (sym kind_is)))
