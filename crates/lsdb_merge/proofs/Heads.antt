-- The heads of the sections, and the LSAs of each section.
use Rattle.std.proofs.Common.{◌≡◌, ℕ, ◌≤◌, ◌<◌, Bool, true, false, cond, ltb, eqb, refl, sym, ◌∙◌, ap, List, [], ◌∷◌, length, get_or, map, arith}
use Rattle.std.specs.Prelude.{All, AllPairs, Contains, ◌≢◌}
use Rattle.std.specs.List.{filter, list_any}
use Rattle.std.specs.Ordering.{nat_cmp, is_eq}
use Rattle.std.specs.declared.cmp.Ordering.{Ordering}
use Rattle.std.specs.declared.cmp.Ordering.TheVariants.{Less, Equal, Greater}
use Rattle.std.proofs.lemmas.Bool.{both_ways, false_from_ne_true, ltb-false, ltb-true, not-false}
use Rattle.std.proofs.lemmas.Cmp.{tied_itself}
use Rattle.std.proofs.lemmas.List.{get_or-map, get_or_default, length-map}
use Rattle.std.proofs.lemmas.List.Elements.{All-filter, All-map, All-weaker, filter_passes}
use Rattle.std.proofs.lemmas.List.Folds.{list_any-from_Any}
use Rattle.std.proofs.lemmas.List.Kept.{AllPairs-cons}
use Rattle.lsa_codec.specs.Accepted.{IsAccepted}
use Rattle.lsa_codec.specs.Key.{key_of}
use Rattle.lsa_codec.specs.Order.{key_cmp}
use Rattle.lsa_codec.proofs.OrderLemmas.{key_total}
use Rattle.lsa_codec.specs.declared.address.AreaId.{AreaId}
use Rattle.lsa_codec.specs.declared.key.Key.{Key}
use Rattle.lsa_instances.specs.declared.place.Scope.{Scope}
use Rattle.lsa_instances.specs.declared.place.Scope.TheVariants.{Area, AsWide}
use Rattle.lsa_instances.specs.declared.observation.Observation.{Observation}
use Rattle.lsa_instances.specs.Newest.{is_of_scope, lsas_of_scope}
use Rattle.lsa_instances.specs.Order.{scope_cmp}
use Rattle.lsdb.proofs.ListLemmas.{pairs_head, pairs_tail}
use Rattle.lsdb.specs.Lists.{AreHeads, HasWideId, IsBefore, IsOrdinaryBackbone, IsSection, is_as_wide, is_in_scope}
use Rattle.lsa_instances.proofs.OrderLemmas.{scope_exact}
use Rattle.lsa_instances.specs.declared.area.AreaReport.{AreaReport}
use Rattle.lsdb_merge.specs.Joining.{head, is_stub, section}
use Rattle.lsdb_merge.specs.Limits.{is_misplaced, is_overfull}
use Rattle.lsdb_merge.specs.steps.Scopes.{HaveRisingKeys, IsWide}

-- ---- lists

pub none_passes : {X : Type 0} (p : X → Bool) (xs : List X) → list_any p xs ≡ false → All (λ x. p x ≡ false) xs
none_passes p xs h k d l =
    false_from_ne_true _ (λ e. both_ways _ h (list_any-from_Any p xs (k, get_or xs k d, l, get_or_default xs k (get_or xs k d) d l, e)))

pub pairs_map : {X Y : Type 0} (R : X → X → Type 0) (S : Y → Y → Type 0) (f : X → Y) → ((a b : X) → R a b → S (f a) (f b))
    → (xs : List X) → AllPairs R xs → AllPairs S (map f xs)
pairs_map R S f imp [] p = λ i j d l m. absurd (omega (arith, m))
pairs_map R S f imp (x ∷ xs) p =
    AllPairs-cons S (f x) (map f xs) (All-map (S (f x)) f xs (All-weaker (R x) (λ y. S (f x) (f y)) (λ y r. imp x y r) xs (pairs_head R x xs p)))
    (pairs_map R S f imp xs (pairs_tail R x xs p))

-- ---- the heads

first_test : (b c : Bool) → cond b Less (cond c Equal Greater) ≡ Less → b ≡ true
first_test true c h = refl
first_test false true h = cc
first_test false false h = cc

below : (x y : ℕ) → nat_cmp x y ≡ Less → x < y
below x y h = ltb-true x y (first_test (ltb x y) (eqb x y) h)

module _ (areas : List AreaReport) where
  wide_head : (s : Scope) → IsWide s → HasWideId (head areas s)
  wide_head (Area id) h = h
  wide_head AsWide h = tt

  before : (a b : Scope) → scope_cmp a b ≡ Less → IsBefore (head areas a) (head areas b)
  before (Area a) (Area b) h = below a.0 b.0 h
  before (Area a) AsWide h = tt
  before AsWide (Area b) h = absurd cc
  before AsWide AsWide h = absurd cc

  ordinary : (s : Scope) → IsOrdinaryBackbone (head areas s)
  ordinary (Area id) = λ e. ap (λ (n : ℕ). let backbone : AreaId = record { 0 = n } in is_stub areas backbone) e
  ordinary AsWide = tt

  pub are_heads : (scopes : List Scope) → length scopes ≤ 65 → All IsWide scopes → AllPairs (λ a b. scope_cmp a b ≡ Less) scopes
      → Contains scopes AsWide → AreHeads (map (head areas) scopes)
  are_heads scopes few wide order as_there = record {
    few = omega (arith, few, length-map scopes (head areas));
    ids = All-map HasWideId (head areas) scopes (All-weaker IsWide (λ s. HasWideId (head areas s)) wide_head scopes wide);
    order = pairs_map (λ a b. scope_cmp a b ≡ Less) IsBefore (head areas) before scopes order;
    backbone = All-map IsOrdinaryBackbone (head areas) scopes (λ k d l. ordinary (get_or scopes k d));
    as_wide =
        let k = as_there.0 in
        let e : get_or (map (head areas) scopes) k (head areas AsWide) ≡ head areas AsWide =
        get_or-map (head areas) scopes k AsWide (head areas AsWide) as_there.1 ∙ ap (head areas) as_there.2 in
        list_any-from_Any is_as_wide (map (head areas) scopes)
        (k, head areas AsWide, omega (arith, as_there.1, length-map scopes (head areas)), e, refl);
  }

-- ---- one section

apart : (a b : Key) → key_cmp a b ≡ Less → a ≢ b
apart a b h e =
    let tied : key_cmp a b ≡ Equal = ap (λ k. key_cmp a k) (sym e) ∙ tied_itself key_total a in
    absurd (cc)

eq_true : (o : Ordering) → is_eq o ≡ true → o ≡ Equal
eq_true Less h = cc
eq_true Equal h = refl
eq_true Greater h = cc

any_areas : (areas : List AreaReport) (s : Scope) (key : Key) → is_in_scope (head [] s) key ≡ is_in_scope (head areas s) key
any_areas areas (Area id) key = refl
any_areas areas AsWide key = refl

module _ {A : Type 0} (areas : List AreaReport) (newest : List (Observation A)) where
  placed_in : (scope : Scope) (x : Observation A) → is_misplaced x ≡ false → is_of_scope scope x ≡ true
      → is_in_scope (head areas scope) (key_of x.lsa) ≡ true
  placed_in scope x p q =
      let e : x.scope ≡ scope = scope_exact x.scope scope (eq_true _ q) in
      ap (λ s. is_in_scope (head areas s) (key_of x.lsa)) (sym e) ∙ sym (any_areas areas x.scope (key_of x.lsa))
      ∙ not-false (is_in_scope (head [] x.scope) (key_of x.lsa)) p

  pub sound_section : All (λ x. IsAccepted x.lsa) newest → All (λ x. is_misplaced x ≡ false) newest → HaveRisingKeys newest
      → (scope : Scope) → is_overfull (section areas newest scope) ≡ false → IsSection (section areas newest scope)
  sound_section accepted placed rising scope few =
      let here = filter (is_of_scope scope) newest in
      let lsas = lsas_of_scope scope newest in
      let in_place = All-filter (is_of_scope scope) (λ x. is_misplaced x ≡ false) newest placed in
      let passes = filter_passes (is_of_scope scope) newest in
      let area = head areas scope in
      let IsIn : Key → Type 0 = λ key. is_in_scope area key ≡ true in
      record {
        accepted = All-map IsAccepted (λ (x : Observation A). x.lsa) here (All-filter (is_of_scope scope) (λ x. IsAccepted x.lsa) newest accepted);
        keys = record {
          few = let n = ltb-false _ _ few in omega (arith, n, length-map lsas key_of);
          scope =
              All-map IsIn key_of lsas
              (All-map (λ lsa. IsIn (key_of lsa)) (λ (x : Observation A). x.lsa) here
              (λ k d l. placed_in scope (get_or here k d) (in_place k d l) (passes k d l)));
          distinct = pairs_map (λ a b. key_cmp (key_of a) (key_of b) ≡ Less) (λ a b. a ≢ b) key_of (λ a b. apart (key_of a) (key_of b)) lsas (rising scope);
        };
      }
