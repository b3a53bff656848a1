-- Fates that give LSAs keys which are free: carried out slot by slot, each state on the way is a database.
use Rattle.std.proofs.Common.{◌≡◌, ◌≤◌, ℕ, Bool, true, false, List, [], ◌∷◌, ◌++◌, length, Option, Some, None, refl, sym, ap, ◌∙◌, subst, arith, cond}
use Rattle.std.proofs.Common.{append_assoc}
use Rattle.std.specs.Prelude.{All, AllPairs, ◌&&◌, ◌||◌, ◌==◌, not, nat_le}
use Rattle.std.specs.List.{list_any, list_all, find, filter_map, cons_option}
use Rattle.std.proofs.lemmas.Bool.{and_parts, and_from, or_parts, or_from, not-true, eqb-true, eq-eqb, leb-true}
use Rattle.std.proofs.lemmas.List.Elements.{All-head, All-tail}
use Rattle.std.proofs.lemmas.List.Folds.{list_any-append, list_all-append}
use Rattle.lsa_codec.specs.declared.key.Key.{Key}
use Rattle.lsa_codec.specs.Accepted.{IsAccepted}
use Rattle.lsa_codec.specs.Fields.{kind_of}
use Rattle.lsa_codec.specs.Key.{key_of}
use Rattle.lsdb.specs.Lists.{AreaHead, SectionLsas, Lists, IsBefore, IsDatabase, heads_of, is_head_of, is_section, has_key, same_key, lsas_of, lsas_or_none}
use Rattle.lsdb.specs.Slots.{Slot, Slots, full, section_of, lists_of}
use Rattle.lsdb.proofs.KeyLemmas.{same_key_true}
use Rattle.event_lsas.specs.Outcomes.{is_accepted}
use Rattle.event_lsas.proofs.ReplacementLemmas.{accepted_of}
use Rattle.edit_history.specs.Rules.{Fate, stays, removed, rewritten, Fates, by_fates, Change, outcome, change_of, section_name, changes_by}
use Rattle.edit_history.specs.Fitting.{is_like, has_free_key, fits, is_rekeyed, share_key, are_apart, all_fit}
use Rattle.edit_history.specs.steps.Plans.{swaps_from}
use Rattle.edit_history.proofs.FatesBySlot.{with_section, changed_in, accepted_in, put_in, IsPassed, Turn, Starts, walked_by, carried_out}
use Rattle.edit_history.proofs.Keys.{only_section}
use Rattle.edit_history.proofs.Rekeyed.{rekeyed, full_passed}
use Rattle.edit_history.proofs.RuleOutcomes.{change}
use Rattle.edit_history.proofs.RulesCarriedOut.{CarriesOutRule}

-- ---- lists

any_without : {X : Type 0} (p : X → Bool) (front back : List X) (x : X) → list_any p (front ++ x ∷ back) ≡ false → list_any p (front ++ back) ≡ false
any_without p [] back x none = (or_parts (p x) (list_any p back) none).1
any_without p (z ∷ front) back x none =
    let parts = or_parts (p z) (list_any p (front ++ x ∷ back)) none in
    or_from (p z) (list_any p (front ++ back)) parts.0 (any_without p front back x parts.1)

any_with : {X : Type 0} (p : X → Bool) (front back : List X) (y : X) → p y ≡ false → list_any p (front ++ back) ≡ false → list_any p (front ++ y ∷ back) ≡ false
any_with p [] back y lacks none = or_from (p y) (list_any p back) lacks none
any_with p (z ∷ front) back y lacks none =
    let parts = or_parts (p z) (list_any p (front ++ back)) none in
    or_from (p z) (list_any p (front ++ y ∷ back)) parts.0 (any_with p front back y lacks parts.1)

any_at : {X : Type 0} (p : X → Bool) (front back : List X) (x : X) → list_any p (front ++ x ∷ back) ≡ false
    → (list_any p front ≡ false) × ((p x ≡ false) × (list_any p back ≡ false))
any_at p front back x none =
    let parts = or_parts (list_any p front) (list_any p (x ∷ back)) (sym (list_any-append p front (x ∷ back)) ∙ none) in
    (parts.0, or_parts (p x) (list_any p back) parts.1)

find_mid : {X : Type 0} (p : X → Bool) (low high : List X) (x : X) → All (λ y. p y ≡ false) low → p x ≡ true → find p (low ++ x ∷ high) ≡ Some x
find_mid p [] high x none is = ap (λ (b : Bool). cond b (Some x) (find p high)) is
find_mid p (y ∷ low) high x none is =
    ap (λ (b : Bool). cond b (Some y) (find p (low ++ x ∷ high))) (All-head (λ z. p z ≡ false) y low none)
    ∙ find_mid p low high x (All-tail (λ z. p z ≡ false) y low none) is

-- ---- changes whose keys are free

-- a change brings no LSA, or keeps the key, or brings one that no LSA of a list has
abbrev keeps_free : List (List ℕ) → Option (List ℕ) → Option (List ℕ) → Bool
keeps_free lsas old None = true
keeps_free lsas None (Some new) = true
keeps_free lsas (Some old) (Some new) = has_free_key lsas old new

abbrev is_free : List (List ℕ) → Change → Bool
is_free lsas c = keeps_free lsas c.old c.new

-- no LSA of a list has the key of another
abbrev IsUnused : List (List ℕ) → List ℕ → Type 0
IsUnused lsas new = list_any (has_key (key_of new)) lsas ≡ false

free_by : (before now : List (List ℕ)) (old new : Option (List ℕ)) → ((n : List ℕ) → new ≡ Some n → IsUnused before n → IsUnused now n)
    → keeps_free before old new ≡ true → keeps_free now old new ≡ true
free_by before now old None step free = refl
free_by before now None (Some new) step free = refl
free_by before now (Some old) (Some new) step free =
    by_key (same_key (key_of new) (key_of old)) (list_any (has_key (key_of new)) before) refl free where
      by_key : (s t : Bool) → list_any (has_key (key_of new)) before ≡ t → (s || not t) ≡ true → (s || not (list_any (has_key (key_of new)) now)) ≡ true
      by_key true t is free = refl
      by_key false true is free = absurd cc
      by_key false false is free = ap not (step new refl is)

free_kept : (before now : List (List ℕ)) (apart : Change → Bool)
    → ((c : Change) → apart c ≡ false → is_free before c ≡ true → is_free now c ≡ true) → (cs : List Change) → list_any apart cs ≡ false
    → list_all (is_free before) cs ≡ true → list_all (is_free now) cs ≡ true
free_kept before now apart step [] none all = refl
free_kept before now apart step (c ∷ cs) none all =
    let nones = or_parts (apart c) (list_any apart cs) none in
    let parts = and_parts (is_free before c) (list_all (is_free before) cs) all in
    and_from (is_free now c) (list_all (is_free now) cs) (step c nones.0 parts.0) (free_kept before now apart step cs nones.1 parts.1)

abbrev never : Change → Bool
never c = false

never_any : (cs : List Change) → list_any never cs ≡ false
never_any [] = refl
never_any (c ∷ cs) = never_any cs

-- ---- changes that keep apart

abbrev shares : Change → Change → Bool
shares c later = share_key c.new later.new

apart_parts : (xs ys : List Change) → are_apart (xs ++ ys) ≡ true → (are_apart xs ≡ true) × (are_apart ys ≡ true)
apart_parts [] ys all = (refl, all)
apart_parts (c ∷ xs) ys all =
    let parts = and_parts (not (is_rekeyed c.old c.new && list_any (shares c) (xs ++ ys))) (are_apart (xs ++ ys)) all in
    let rest = apart_parts xs ys parts.1 in
    (and_from (not (is_rekeyed c.old c.new && list_any (shares c) xs)) (are_apart xs) (by_test (is_rekeyed c.old c.new) parts.0) rest.0, rest.1) where
      by_test : (b : Bool) → not (b && list_any (shares c) (xs ++ ys)) ≡ true → not (b && list_any (shares c) xs) ≡ true
      by_test false h = refl
      by_test true h =
          ap not (or_parts (list_any (shares c) xs) (list_any (shares c) ys)
          (sym (list_any-append (shares c) xs ys) ∙ not-true (list_any (shares c) (xs ++ ys)) h)).0

-- ---- the LSAs of a section by its name

named : (area : Option AreaHead) → is_head_of (section_name area) area ≡ true
named None = refl
named (Some head) = eq-eqb head.id head.id refl

own_lsas : (low high : Lists) (s : SectionLsas) → AllPairs IsBefore (heads_of (low ++ s ∷ high))
    → lsas_of (section_name s.area) (low ++ s ∷ high) ≡ s.lsas
own_lsas low high s order =
    ap lsas_or_none
    (find_mid (is_section (section_name s.area)) low high s (only_section (section_name s.area) low high s order (named s.area)).below (named s.area))

-- ---- what holds on the way

module _ (fates : Fates) (db : Lists) where
  -- there are places for what the slots that are not passed get, and these changes keep apart
  record Fresh (area : Option AreaHead) (pre post : List Slot) : Type 0 where
    places : list_all (fits db) (changed_in fates area post) ≡ true
    apart : are_apart (changed_in fates area post) ≡ true
    free : list_all (is_free (full pre ++ full post)) (changed_in fates area post) ≡ true

  module _ (low high : Slots) (area : Option AreaHead) (pre post : List Slot) where
    -- what holds after a slot
    passed_with : (v : Slot) → IsDatabase (lists_of (with_section low area (pre ++ v ∷ post) high)) → list_all (fits db) (changed_in fates area post) ≡ true
        → are_apart (changed_in fates area post) ≡ true
        → list_all (is_free (full pre ++ cons_option v (full post))) (changed_in fates area post) ≡ true → IsPassed Fresh low high area pre post v
    passed_with v sound places apart free = record {
      sound = sound;
      holds = record {
        places = places;
        apart = apart;
        free = subst (λ (xs : List (List ℕ)). list_all (is_free xs) (changed_in fates area post) ≡ true) (sym (full_passed pre post v)) free;
      };
    }

    removal_passed : (x : List ℕ) → IsDatabase (lists_of (with_section low area (pre ++ Some x ∷ post) high))
        → list_all (fits db) (changed_in fates area post) ≡ true → are_apart (changed_in fates area post) ≡ true
        → list_all (is_free (full pre ++ x ∷ full post)) (changed_in fates area post) ≡ true → IsPassed Fresh low high area pre post None
    removal_passed x sound places apart free =
        passed_with None (put_in low high area pre post x None tt sound) places apart
        (free_kept (full pre ++ x ∷ full post) (full pre ++ full post) never
        (λ c lacks. free_by (full pre ++ x ∷ full post) (full pre ++ full post) c.old c.new
        (λ n is none. any_without (has_key (key_of n)) (full pre) (full post) x none))
        (changed_in fates area post) (never_any (changed_in fates area post)) free)

    module _ (x new : List ℕ) (sound : IsDatabase (lists_of (with_section low area (pre ++ Some x ∷ post) high)))
        (accepted : IsAccepted new) (kind : kind_of new ≡ kind_of x) (size : length new ≤ length x)
        (places : list_all (fits db) (changed_in fates area post) ≡ true) (apart : are_apart (changed_in fates area post) ≡ true)
        (free : list_all (is_free (full pre ++ x ∷ full post)) (changed_in fates area post) ≡ true) where
      -- an LSA with the key of the one before
      same_passed : key_of new ≡ key_of x → IsPassed Fresh low high area pre post (Some new)
      same_passed key =
          passed_with (Some new) (put_in low high area pre post x (Some new) (record { accepted = accepted; key = key; size = size }) sound) places apart
          (free_kept (full pre ++ x ∷ full post) (full pre ++ new ∷ full post) never
          (λ c lacks. free_by (full pre ++ x ∷ full post) (full pre ++ new ∷ full post) c.old c.new
          (λ n is none. any_with (has_key (key_of n)) (full pre) (full post) new
          (ap (λ (k : Key). same_key k (key_of n)) key ∙ (any_at (has_key (key_of n)) (full pre) (full post) x none).1.0)
          (any_without (has_key (key_of n)) (full pre) (full post) x none)))
          (changed_in fates area post) (never_any (changed_in fates area post)) free)

      -- one with another key
      other_passed : IsUnused (full pre ++ x ∷ full post) new → list_any (λ (later : Change). share_key (Some new) later.new) (changed_in fates area post) ≡ false
          → IsPassed Fresh low high area pre post (Some new)
      other_passed unused alone =
          let parts = any_at (has_key (key_of new)) (full pre) (full post) x unused in
          passed_with (Some new)
          (rekeyed low high area pre post x new
          (record { accepted = accepted; kind = kind; size = size; before = parts.0; after = parts.1.1 }) sound) places apart
          (free_kept (full pre ++ x ∷ full post) (full pre ++ new ∷ full post) (λ (later : Change). share_key (Some new) later.new)
          (λ c lacks. free_by (full pre ++ x ∷ full post) (full pre ++ new ∷ full post) c.old c.new
          (λ n is none. any_with (has_key (key_of n)) (full pre) (full post) new (ap (share_key (Some new)) (sym is) ∙ lacks)
          (any_without (has_key (key_of n)) (full pre) (full post) x none)))
          (changed_in fates area post) alone free)

      by_key : (s : Bool) → same_key (key_of new) (key_of x) ≡ s → has_free_key (full pre ++ x ∷ full post) x new ≡ true
          → not (is_rekeyed (Some x) (Some new) && list_any (λ (later : Change). share_key (Some new) later.new) (changed_in fates area post)) ≡ true
          → IsPassed Fresh low high area pre post (Some new)
      by_key true is own alone = same_passed (same_key_true (key_of new) (key_of x) is)
      by_key false is own alone =
          let unused : not (list_any (has_key (key_of new)) (full pre ++ x ∷ full post)) ≡ true =
          sym (ap (λ (b : Bool). b || not (list_any (has_key (key_of new)) (full pre ++ x ∷ full post))) is) ∙ own in
          let others : Bool = list_any (λ (later : Change). share_key (Some new) later.new) (changed_in fates area post) in
          other_passed (not-true (list_any (has_key (key_of new)) (full pre ++ x ∷ full post)) unused)
          (sym (ap (λ (b : Bool). not b && others) is) ∙ not-true (not (same_key (key_of new) (key_of x)) && others) alone)

    -- an LSA with any fate
    by_fate : (x : List ℕ) (f : Fate) → IsDatabase (lists_of (with_section low area (pre ++ Some x ∷ post) high))
        → list_all (fits db) (cons_option (change_of (section_name area) x f) (changed_in fates area post)) ≡ true
        → are_apart (cons_option (change_of (section_name area) x f) (changed_in fates area post)) ≡ true
        → list_all (is_free (full pre ++ x ∷ full post)) (cons_option (change_of (section_name area) x f) (changed_in fates area post)) ≡ true
        → IsPassed Fresh low high area pre post (outcome f x)
    by_fate x stays sound places apart free = passed_with (Some x) sound places apart free
    by_fate x removed sound places apart free = removal_passed x sound places apart free
    by_fate x (rewritten new) sound places apart free =
        let here = and_parts _ _ places in
        let like = and_parts (is_accepted new) _ (and_parts (is_like x new) _ here.0).0 in
        let shape = and_parts (nat_le (length new) (length x)) (kind_of new == kind_of x) like.1 in
        let size : length new ≤ length x = leb-true (length new) (length x) shape.0 in
        let apart_here = and_parts _ _ apart in
        let free_here = and_parts _ _ free in
        let good : IsAccepted x = accepted_in low high area pre post x sound in
        by_key x new sound (accepted_of new (omega (arith, size, good.short)) like.0) (eqb-true (kind_of new) (kind_of x) shape.1) size here.1 apart_here.1
        free_here.1 (same_key (key_of new) (key_of x)) refl free_here.0 apart_here.0

  fresh_turn : Turn fates Fresh
  fresh_turn low high area pre post None here sound = passed_with low high area pre post None sound here.places here.apart here.free
  fresh_turn low high area pre post (Some x) here sound = by_fate low high area pre post x (fates area x) sound here.places here.apart here.free

  -- ---- at the beginning

  -- where there are places in a section, its keys are free
  free_at_first : (area : Option AreaHead) (xs : List (List ℕ)) → list_all (fits db) (filter_map (change fates area) xs) ≡ true
      → list_all (is_free (lsas_of (section_name area) db)) (filter_map (change fates area) xs) ≡ true
  free_at_first area [] all = refl
  free_at_first area (x ∷ xs) all = by_first (fates area x) all (free_at_first area xs) where
    later : List Change
    later = filter_map (change fates area) xs

    by_first : (f : Fate) → list_all (fits db) (cons_option (change_of (section_name area) x f) later) ≡ true
        → (list_all (fits db) later ≡ true → list_all (is_free (lsas_of (section_name area) db)) later ≡ true)
        → list_all (is_free (lsas_of (section_name area) db)) (cons_option (change_of (section_name area) x f) later) ≡ true
    by_first stays all more = more all
    by_first removed all more = more all
    by_first (rewritten new) all more =
        let parts = and_parts _ _ all in
        let free : has_free_key (lsas_of (section_name area) db) x new ≡ true = (and_parts (is_like x new) _ parts.0).1 in
        and_from (has_free_key (lsas_of (section_name area) db) x new) _ free (more parts.1)

  starts_from : AllPairs IsBefore (heads_of db) → (low : Lists) (ss : Slots) → db ≡ low ++ lists_of ss
      → list_all (fits db) (changes_by (by_fates fates) (lists_of ss)) ≡ true → are_apart (changes_by (by_fates fates) (lists_of ss)) ≡ true
      → Starts Fresh ss
  starts_from order low [] is all apart = tt
  starts_from order low (s ∷ ss) is all apart =
      let mine : List Change = changed_in fates s.area s.slots in
      let others : List Change = changes_by (by_fates fates) (lists_of ss) in
      let places = and_parts (list_all (fits db) mine) (list_all (fits db) others) (sym (list_all-append (fits db) mine others) ∙ all) in
      let parts = apart_parts mine others apart in
      let lsas : lsas_of (section_name s.area) db ≡ full s.slots =
      ap (lsas_of (section_name s.area)) is
      ∙ own_lsas low (lists_of ss) (section_of s) (subst (λ (l : Lists). AllPairs IsBefore (heads_of l)) is order) in (
        record {
          places = places.0;
          apart = parts.0;
          free =
              subst (λ (xs : List (List ℕ)). list_all (is_free xs) (changed_in fates s.area s.slots) ≡ true) lsas
              (free_at_first s.area (full s.slots) places.0);
        },
        starts_from order (low ++ section_of s ∷ []) ss (is ∙ sym (append_assoc low (section_of s ∷ []) (lists_of ss))) places.1 parts.1,
      )

-- changes for which there are places are carried out
pub fit_carried_out : (fates : Fates) (d : Slots) → IsDatabase (lists_of d) → all_fit (lists_of d) (changes_by (by_fates fates) (lists_of d)) ≡ true
    → CarriesOutRule d (by_fates fates) (swaps_from fates 0 d)
fit_carried_out fates d sound fit =
    let parts = and_parts _ _ fit in
    carried_out fates d
    (walked_by fates (Fresh fates (lists_of d)) (fresh_turn fates (lists_of d)) d
    (starts_from fates (lists_of d) sound.heads.order [] d refl parts.0 parts.1) sound)
