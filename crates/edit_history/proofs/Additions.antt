-- A new LSA at the end of a section.
use Rattle.std.proofs.Common.{◌≡◌, ℕ, ◌+◌, Bool, true, false, ◌||◌, List, [], ◌∷◌, ◌++◌, length, Option, Some, None, Result, Ok, Err, refl, sym, ap}
use Rattle.std.proofs.Common.{◌∙◌, subst, arith, rules}
use Rattle.std.specs.Prelude.{All, AllPairs, IsSome, unwrap_or, if◌then◌else◌}
use Rattle.std.specs.List.{find}
use Rattle.std.proofs.lemmas.Bool.{leb-false, ltb-false}
use Rattle.std.proofs.lemmas.List.Elements.{All-head, All-tail}
use Rattle.lsa_codec.specs.declared.key.Key.{Key}
use Rattle.lsa_codec.specs.Accepted.{IsAccepted}
use Rattle.lsa_codec.specs.Fields.{kind_of}
use Rattle.lsa_codec.specs.Key.{key_of}
use Rattle.lsdb.specs.declared.section.Section.{Section}
use Rattle.lsdb.specs.declared.section.Section.TheVariants.{Area, AsWide}
use Rattle.lsdb.specs.declared.slot.SlotId.{SlotId}
use Rattle.lsdb.specs.Limits.{longest_dump}
use Rattle.lsdb.specs.Lists.{AreaHead, SectionLsas, Lists, IsBefore, IsDatabase, heads_of, is_head_of, is_section, is_in_scope, limit_of, has_key}
use Rattle.lsdb.specs.Lists.{lsas_of, size}
use Rattle.lsdb.specs.Slots.{Slot, Slots, item_at, slot_at, put, update_at, open_at, lists_of, slots_in, lsas_or_none, IsNamed}
use Rattle.lsdb.proofs.ListLemmas.{map_mid}
use Rattle.lsdb.proofs.SlotLemmas.{slot_at-put, lists_of-open_at}
use Rattle.lsdb.proofs.SlotLemmas.{with_lsa, Fits, lists-new, added_safe, split}
use Rattle.edit_script.specs.declared.edit.Edit.{Edit}
use Rattle.edit_history.specs.declared.fault.EditFault.{EditFault}
use Rattle.edit_history.specs.Rules.{stays, Rule, adding, kept_lsas, fated_changes, section_after, lists_after, Change, addition, section_name}
use Rattle.edit_history.specs.Rules.{section_changes, changes_by}
use Rattle.edit_history.specs.Effect.{most_lsas, room_for, has_room, added, rule_of, ◌>>=◌}
use Rattle.edit_history.specs.Exchange.{SwapData}
use Rattle.edit_history.specs.Applied.{Planned}
use Rattle.edit_history.specs.steps.Plans.{Opens}
use Rattle.edit_history.proofs.Keys.{found_passes, only_section, name_is}
use Rattle.edit_history.proofs.RuleOutcomes.{all_stay, none_change, changes_mid}
use Rattle.edit_history.proofs.RoomForLsas.{IsRoom, is_room}
use Rattle.edit_history.proofs.Searches.{none_found}
use Rattle.edit_history.proofs.RulesCarriedOut.{CarriesOutRule, carries}

-- ---- what the rule leaves

kept_all : (name : Section) (x : List ℕ) (s : SectionLsas) → kept_lsas (adding name x).fates s ≡ s.lsas
kept_all name x s = all_stay (λ h y. stays) s.area s.lsas (λ k d lt. refl)

changed_none : (name : Section) (x : List ℕ) (s : SectionLsas) → fated_changes (adding name x).fates s ≡ []
changed_none name x s = none_change (λ h y. stays) s.area s.lsas (λ k d lt. refl)

abbrev end_of : {X : Type 0} → Bool → X → List X → List X
end_of here item xs = if here then xs ++ item ∷ [] else xs

abbrev with_lsas : Option AreaHead → List (List ℕ) → SectionLsas
with_lsas head lsas = record { area = head; lsas = lsas }

elsewhere : (name : Section) (x : List ℕ) (s : SectionLsas) → is_head_of name s.area ≡ false → section_after (adding name x) s ≡ s
elsewhere name x s apart =
    ap (λ (b : Bool). with_lsas s.area (end_of b x (kept_lsas (adding name x).fates s))) apart ∙ ap (with_lsas s.area) (kept_all name x s)

at_end : (name : Section) (x : List ℕ) (s : SectionLsas) → is_head_of name s.area ≡ true → section_after (adding name x) s ≡ with_lsa x s
at_end name x s here =
    ap (λ (b : Bool). with_lsas s.area (end_of b x (kept_lsas (adding name x).fates s))) here
    ∙ ap (λ (xs : List (List ℕ)). with_lsas s.area (xs ++ x ∷ [])) (kept_all name x s)

no_change : (name : Section) (x : List ℕ) (s : SectionLsas) → is_head_of name s.area ≡ false → section_changes (adding name x) s ≡ []
no_change name x s apart =
    ap (λ (b : Bool). end_of b (addition (section_name s.area) x) (fated_changes (adding name x).fates s)) apart ∙ changed_none name x s

one_change : (name : Section) (x : List ℕ) (s : SectionLsas) → is_head_of name s.area ≡ true
    → section_changes (adding name x) s ≡ addition (section_name s.area) x ∷ []
one_change name x s here =
    ap (λ (b : Bool). end_of b (addition (section_name s.area) x) (fated_changes (adding name x).fates s)) here
    ∙ ap (λ (cs : List Change). cs ++ addition (section_name s.area) x ∷ []) (changed_none name x s)

abbrev IsElsewhere : Section → SectionLsas → Type 0
IsElsewhere name s = is_head_of name s.area ≡ false

all_elsewhere : (name : Section) (x : List ℕ) (ss : Lists) → All (IsElsewhere name) ss → lists_after (adding name x) ss ≡ ss
all_elsewhere name x [] h = refl
all_elsewhere name x (s ∷ ss) h =
    ap (λ (t : SectionLsas). t ∷ lists_after (adding name x) ss)
    (elsewhere name x s (let e : is_head_of name s.area ≡ false = All-head (IsElsewhere name) s ss h in e))
    ∙ ap (λ (ts : Lists). s ∷ ts) (all_elsewhere name x ss (All-tail (IsElsewhere name) s ss h))

none_changed : (name : Section) (x : List ℕ) (ss : Lists) → All (IsElsewhere name) ss → changes_by (adding name x) ss ≡ []
none_changed name x [] h = refl
none_changed name x (s ∷ ss) h =
    ap (λ (cs : List Change). cs ++ changes_by (adding name x) ss)
    (no_change name x s (let e : is_head_of name s.area ≡ false = All-head (IsElsewhere name) s ss h in e))
    ∙ none_changed name x ss (All-tail (IsElsewhere name) s ss h)

-- ---- the section that gets the LSA

pub record Gets (db : Lists) (name : Section) (i : ℕ) (x : List ℕ) : Type 0 where
  pub section : SectionLsas
  pub at : item_at db i ≡ Some section
  pub found : find (is_section name) db ≡ Some section
  pub named : is_head_of name section.area ≡ true
  pub leads : lists_after (adding name x) db ≡ update_at (with_lsa x) db i
  pub reports : changes_by (adding name x) db ≡ addition name x ∷ []

pub gets : (d : Slots) (name : Section) (i : ℕ) (x : List ℕ) → IsDatabase (lists_of d) → IsNamed d name i → Gets (lists_of d) name i x
gets d name i x sound is_named = by_item (item_at (lists_of d) i) refl is_named.exists where
  here : (s : SectionLsas) → item_at (lists_of d) i ≡ Some s → Gets (lists_of d) name i x
  here s at =
      let found : find (is_section name) (lists_of d) ≡ Some s = sym is_named.same ∙ at in
      let named : is_head_of name s.area ≡ true = found_passes (is_section name) (lists_of d) s found in
      let w = split (lists_of d) i s (with_lsa x) at in
      let order : AllPairs IsBefore (heads_of (w.low ++ s ∷ w.high)) = subst
      (λ (db : Lists). AllPairs IsBefore (heads_of db)) w.before sound.heads.order in
      let only = only_section name w.low w.high s order named in
      let rule = adding name x in
      record {
        section = s;
        at = at;
        found = found;
        named = named;
        leads =
            ap (lists_after rule) w.before
            ∙ map_mid (section_after rule) w.low w.high s
            ∙ ap (λ (ss : Lists). ss ++ section_after rule s ∷ lists_after rule w.high) (all_elsewhere name x w.low only.below)
            ∙ ap (λ (t : SectionLsas). w.low ++ t ∷ lists_after rule w.high) (at_end name x s named)
            ∙ ap (λ (ss : Lists). w.low ++ with_lsa x s ∷ ss) (all_elsewhere name x w.high only.above)
            ∙ sym w.after;
        reports =
            ap (changes_by rule) w.before
            ∙ changes_mid rule w.low w.high s
            ∙ ap (λ (cs : List Change). cs ++ (section_changes rule s ++ changes_by rule w.high)) (none_changed name x w.low only.below)
            ∙ ap (λ (cs : List Change). cs ++ changes_by rule w.high) (one_change name x s named)
            ∙ ap (λ (cs : List Change). addition (section_name s.area) x ∷ cs) (none_changed name x w.high only.above)
            ∙ ap (λ (n : Section). addition n x ∷ []) (sym (name_is name s.area named));
      }

  by_item : (o : Option SectionLsas) → item_at (lists_of d) i ≡ o → IsSome o → Gets (lists_of d) name i x
  by_item None is some = absurd (search rules)
  by_item (Some s) is some = here s is

-- ---- the limits

-- an LSA that may be in a section with this name, and for which there is room
pub record IsNew (db : Lists) (name : Section) (x : List ℕ) : Type 0 where
  pub accepted : IsAccepted x
  pub scope : (head : Option AreaHead) → is_head_of name head ≡ true → is_in_scope head (key_of x) ≡ true
  pub room : IsRoom db name (key_of x) (length x)

neither : (a b : Bool) → (a || b) ≡ false → (a ≡ false) × (b ≡ false)
neither true b is = absurd cc
neither false b is = (refl, is)

limit_is : (name : Section) (head : Option AreaHead) → is_head_of name head ≡ true → limit_of head ≡ most_lsas name
limit_is AsWide None h = refl
limit_is AsWide (Some head) h = absurd cc
limit_is (Area area) None h = absurd cc
limit_is (Area area) (Some head) h = refl

fits : (db : Lists) (name : Section) (i : ℕ) (x : List ℕ) (g : Gets db name i x) → IsNew db name x → Fits db g.section x
fits db name i x g new =
    let lsas : lsas_of name db ≡ g.section.lsas = ap lsas_or_none g.found in
    let both = neither _ _ new.room.fits in
    let few = leb-false (most_lsas name) (length (lsas_of name db)) both.0 in
    let short = ltb-false longest_dump (size db + length x) both.1 in
    record {
      accepted = new.accepted;
      scope = new.scope g.section.area g.named;
      new = ap (find (has_key (key_of x))) (sym lsas) ∙ none_found (has_key (key_of x)) (lsas_of name db) new.room.free;
      room = omega (arith, few, limit_is name g.section.area g.named, ap length lsas);
      small = short;
    }

-- ---- the plan

abbrev new_at : Section → ℕ → Option Slot → Option Slot → Change
new_at name kind old now = record { section = name; kind = kind; old = unwrap_or old None; new = unwrap_or now None }

abbrev fills : SlotId → Section → List ℕ → SwapData
fills slot name x = record { slot = slot; section = name; kind = kind_of x; other = Some x }

carried : (d : Slots) (name : Section) (slot : SlotId) (x : List ℕ) → IsDatabase (lists_of d) → IsNamed d name slot.section
    → slot.index ≡ length (slots_in d slot.section) → slot_at (open_at d slot.section) slot ≡ Some None → IsNew (lists_of d) name x
    → CarriesOutRule (open_at d slot.section) (adding name x) (fills slot name x ∷ [])
carried d name slot x sound named last empty new =
    let e = open_at d slot.section in
    let g = gets d name slot.section x sound named in
    let filled : lists_of (put e slot (Some x)) ≡ update_at (with_lsa x) (lists_of d) slot.section = lists-new x d slot.section slot.index last in
    let same : lists_of e ≡ lists_of d = lists_of-open_at d slot.section in
    let now : slot_at (put e slot (Some x)) slot ≡ Some (Some x) = slot_at-put e slot (Some x) None empty in
    record {
      can = (
        subst (λ (o : Option Slot). IsSome o) (sym empty) refl,
        subst IsDatabase (sym filled) (added_safe (lists_of d) slot.section g.section x g.at (fits (lists_of d) name slot.section x g new) sound),
        tt,
      );
      leads = ap (lists_after (adding name x)) same ∙ g.leads ∙ sym filled;
      reports =
          ap (changes_by (adding name x)) same
          ∙ g.reports
          ∙ sym (ap (λ (o : Option Slot). new_at name (kind_of x) o (slot_at (put e slot (Some x)) slot) ∷ []) empty
          ∙ ap (λ (o : Option Slot). new_at name (kind_of x) (Some None) o ∷ []) now);
    }

pub planned_new : (d e : Slots) (edit : Edit) (name : Section) (x : List ℕ) (items : List SwapData) → IsDatabase (lists_of d)
    → rule_of (lists_of d) edit ≡ Ok (adding name x) → IsNew (lists_of d) name x → Opens d e name x items → Planned d e edit items
planned_new d e edit name x items sound ruled new o =
    subst (λ (ss : List SwapData). Planned d e edit ss) (sym o.swap)
    (subst (λ (w : Slots). Planned d w edit (fills o.slot name x ∷ [])) (sym o.opens.opened) here) where
      empty : slot_at (open_at d o.slot.section) o.slot ≡ Some None
      empty = ap (λ (w : Slots). slot_at w o.slot) (sym o.opens.opened) ∙ o.opens.empty

      here : Planned d (open_at d o.slot.section) edit (fills o.slot name x ∷ [])
      here = record {
        opens = (o.slot.section ∷ [], refl);
        carries = carries (open_at d o.slot.section) edit (adding name x) (fills o.slot name x ∷ [])
            (ap (λ (db : Lists). rule_of db edit) (lists_of-open_at d o.slot.section) ∙ ruled)
            (carried d name o.slot x sound o.opens.named o.opens.last empty new);
      }

-- ---- the refusals

-- the key and the length of a new LSA
pub record IsKeyed (x : List ℕ) (key : Key) (byte_count : ℕ) : Type 0 where
  pub key_is : key_of x ≡ key
  pub size_is : length x ≡ byte_count

abbrev add_rule : Section → List ℕ → Result (Unit {0}) EditFault → Result Rule EditFault
add_rule name x room = room >>= λ there. Ok (adding name x)

room_same : (db : Lists) (name : Section) (x : List ℕ) (key : Key) (byte_count : ℕ) → IsKeyed x key byte_count
    → room_for db name (key_of x) (length x) ≡ room_for db name key byte_count
room_same db name x key byte_count keyed = ap (λ (k : Key). room_for db name k (length x)) keyed.key_is ∙ ap (room_for db name key) keyed.size_is

pub added_refused : (db : Lists) (name : Section) (x : List ℕ) (key : Key) (byte_count : ℕ) (fault : EditFault) → IsKeyed x key byte_count
    → room_for db name key byte_count ≡ Err fault → added db name x ≡ Err fault
added_refused db name x key byte_count fault keyed is = ap (add_rule name x) (room_same db name x key byte_count keyed ∙ is)

pub added_ruled : (db : Lists) (name : Section) (x : List ℕ) (key : Key) (byte_count : ℕ) → IsKeyed x key byte_count → room_for db name key byte_count ≡ has_room
    → added db name x ≡ Ok (adding name x)
added_ruled db name x key byte_count keyed is = ap (add_rule name x) (room_same db name x key byte_count keyed ∙ is)

pub new_room : (db : Lists) (name : Section) (x : List ℕ) (key : Key) (byte_count : ℕ) → IsKeyed x key byte_count → room_for db name key byte_count ≡ has_room
    → IsRoom db name (key_of x) (length x)
new_room db name x key byte_count keyed is = is_room db name (key_of x) (length x) (room_same db name x key byte_count keyed ∙ is)
