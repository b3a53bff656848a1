-- The entries in the results of a router's areas are each of its area, and those of AS boundary routers are intra-area
-- entries.
use Rattle.std.proofs.Common.{◌≡◌, ℕ, Bool, true, false, cond, List, [], ◌∷◌, ◌++◌, filter, Option, Some, None, IfSome, is_some, refl, sym, ap, ◌∙◌, ◌⊎◌, inl, inr, get_or}
use Rattle.std.specs.Prelude.{◌&&◌, not, if◌then◌else◌}
use Rattle.std.specs.List.{All, find}
use Rattle.std.specs.Option.{option_map_or}
use Rattle.std.specs.Ordering.{is_lt}
use Rattle.std.proofs.lemmas.Bool.{and_parts, eqb-true}
use Rattle.std.proofs.lemmas.List.Elements.{All-append, All-cons, All-head, All-nil, All-tail, filter-append}
use Rattle.lsa_codec.specs.Areas.{is_backbone}
use Rattle.lsa_codec.specs.declared.address.AreaId.{AreaId}
use Rattle.lsa_codec.specs.declared.address.RouterId.{RouterId}
use Rattle.lsdb.specs.declared.section.Section.TheVariants.{Area}
use Rattle.lsdb.specs.Lists.{AreaHead, Lists, lsas_of}
use Rattle.area_graph.specs.Area.{is_router_lsa, used}
use Rattle.area_graph.specs.Least.{least, lesser}
use Rattle.area_routes.specs.declared.entry.EntryKind.{EntryKind}
use Rattle.area_routes.specs.declared.entry.EntryKind.TheVariants.{Border, AsbrInter, AsbrIntra}
use Rattle.area_routes.specs.AreaResults.{area_result, result_in, results_in}
use Rattle.area_routes.specs.Entries.{area_entries, bit_b, bit_e, entries_of, entry_by, flags_of, has_bit, reached_entry}
use Rattle.area_routes.specs.Inter.{backbone, entries_of_all, has_asbr, same_kind, same_router}
use Rattle.area_routes.specs.Reached.{ReachedValue, reached_from}
use Rattle.area_routes.specs.Stubs.{is_lsa_of}
use Rattle.area_routes.specs.Values.{AreaResultValue, EntryValue}
use Rattle.external_routes.specs.Choose.{is_asbr, is_asbr_intra, is_asbr_kind, preference}
use Rattle.summary_metrics.specs.Refreshed.{id_of}
use Rattle.summary_metrics.specs.SummaryMetrics.{backbone_entries}
use Rattle.summary_metrics.proofs.Outside.{is_outside}

-- ---- the entries of one area

module _ (area : AreaId) where
  -- an intra-area entry of the area
  abbrev IsOwn : EntryValue → Type 0
  IsOwn e = (e.area ≡ area) × (is_asbr_kind e.kind ≡ is_asbr_intra e.kind)

  own_by : (r : ReachedValue) (bit : ℕ) (kind : EntryKind) → is_asbr_kind kind ≡ is_asbr_intra kind → All IsOwn (entry_by area r bit kind)
  own_by r bit kind h = by (has_bit bit (flags_of r.lsa))
    where
      by : (b : Bool) → All IsOwn (if b then reached_entry area r kind ∷ [] else [])
      by true = All-cons IsOwn (reached_entry area r kind) [] (refl, h) (All-nil IsOwn)
      by false = All-nil IsOwn

  own_of : (root : RouterId) (r : ReachedValue) → All IsOwn (entries_of area root r)
  own_of root r = by (is_router_lsa r.lsa && not (is_lsa_of root r.lsa))
    where
      by : (b : Bool) → All IsOwn (if b then entry_by area r bit_b Border ++ entry_by area r bit_e AsbrIntra else [])
      by true = All-append IsOwn (entry_by area r bit_b Border) (entry_by area r bit_e AsbrIntra) (own_by r bit_b Border refl) (own_by r bit_e AsbrIntra refl)
      by false = All-nil IsOwn

  own_all : (root : RouterId) (rs : List ReachedValue) → All IsOwn (area_entries area root rs)
  own_all root [] = All-nil IsOwn
  own_all root (r ∷ rs) = All-append IsOwn (entries_of area root r) (area_entries area root rs) (own_of root r) (own_all root rs)

own_result : (db : Lists) (router : RouterId) (head : AreaHead) → All (IsOwn (id_of head)) (result_in db router head).entries
unfolding area_result
own_result db router head = own_all (id_of head) router (reached_from router (used (lsas_of (Area (id_of head)) db)))

area_is : (db : Lists) (router : RouterId) (head : AreaHead) → (result_in db router head).area ≡ id_of head
unfolding area_result
area_is db router head = refl

-- what is in a list is found
found_all : {X : Type 0} (p : X → Bool) (xs : List X) → All (λ x. p x ≡ true → is_some (find p xs) ≡ true) xs
found_all p [] = All-nil (λ x. p x ≡ true → is_some (find p []) ≡ true)
found_all {X} p (x ∷ xs) =
    All-cons (λ y. p y ≡ true → is_some (find p (x ∷ xs)) ≡ true) x xs (λ h. ap (λ b. is_some (cond b (Some x) (find p xs))) h)
    (λ k d l h. by (p x) (found_all p xs k d l h))
  where
    by : (b : Bool) → is_some (find p xs) ≡ true → is_some (cond b (Some x) (find p xs)) ≡ true
    by true h = refl
    by false h = h

intra_same : (kind : EntryKind) → is_asbr_intra kind ≡ same_kind kind AsbrIntra
intra_same Border = refl
intra_same AsbrIntra = refl
intra_same AsbrInter = refl

-- ---- the entries of an AS boundary router

module _ (db : Lists) (router : RouterId) (heads : List AreaHead) (asbr : RouterId) where
  -- the results of all areas
  abbrev given : List AreaHead → List AreaResultValue
  given hs = results_in db router hs

  abbrev known : List EntryValue
  known = backbone_entries (given heads)

  -- an intra-area entry, of an area outside the backbone unless the backbone has one
  abbrev pub IsFirst : EntryValue → Type 0
  IsFirst e = (is_asbr_intra e.kind ≡ true) × ((is_outside e ≡ true) ⊎ (has_asbr known asbr ≡ true))

  -- an entry of the AS boundary router is such an entry
  abbrev IsFit : EntryValue → Type 0
  IsFit e = is_asbr asbr e ≡ true → IsFirst e

  -- the area has the entries of the backbone, if it is the backbone
  abbrev IsBackboneOf : AreaHead → Type 0
  IsBackboneOf head = is_backbone (id_of head) ≡ true → known ≡ (result_in db router head).entries

  fit : (head : AreaHead) → IsBackboneOf head → (e : EntryValue) → IsOwn (id_of head) e
      → ((same_kind e.kind AsbrIntra && same_router e.router asbr) ≡ true → has_asbr (result_in db router head).entries asbr ≡ true) → IsFit e
  fit head whole e own found is =
      let parts = and_parts (is_asbr_kind e.kind) (same_router e.router asbr) is in
      let intra : is_asbr_intra e.kind ≡ true = sym own.1 ∙ parts.0 in
      (intra, by (is_backbone (id_of head)) refl intra parts.1)
    where
      by : (b : Bool) → is_backbone (id_of head) ≡ b → is_asbr_intra e.kind ≡ true → same_router e.router asbr ≡ true
          → (is_outside e ≡ true) ⊎ (has_asbr known asbr ≡ true)
      by false f intra same = inl (λ i. intra i && not ((ap is_backbone own.0 ∙ f) i))
      by true f intra same =
          inr (ap (λ es. has_asbr es asbr) (whole f) ∙ found (λ i. (sym (intra_same e.kind) ∙ intra) i && same i))

  fit_result : (head : AreaHead) → IsBackboneOf head → All IsFit (result_in db router head).entries
  fit_result head whole = λ k d l.
      fit head whole (get_or (result_in db router head).entries k d) (own_result db router head k d l)
      (found_all (λ e. same_kind e.kind AsbrIntra && same_router e.router asbr) (result_in db router head).entries k d l)

  fit_results : (hs : List AreaHead) → All IsBackboneOf hs → All IsFit (entries_of_all (given hs))
  fit_results [] all = All-nil IsFit
  fit_results (h ∷ hs) all =
      All-append IsFit (result_in db router h).entries (entries_of_all (given hs)) (fit_result h (All-head IsBackboneOf h hs all))
      (fit_results hs (All-tail IsBackboneOf h hs all))

module _ (db : Lists) (router : RouterId) where
  -- areas with one ID have the same result
  same_given : (a b : AreaHead) → is_backbone (id_of a) ≡ true → is_backbone (id_of b) ≡ true → (result_in db router a).entries ≡ (result_in db router b).entries
  same_given a b is also =
      ap (λ n. (area_result (record { 0 = n }) (lsas_of (Area (record { 0 = n })) db) router).entries) (eqb-true a.id 0 is ∙ sym (eqb-true b.id 0 also))

  backbone_of : (hs : List AreaHead)
      → All (λ head. is_backbone (id_of head) ≡ true → backbone_entries (results_in db router hs) ≡ (result_in db router head).entries) hs
  backbone_of [] = All-nil (λ head. is_backbone (id_of head) ≡ true → backbone_entries [] ≡ (result_in db router head).entries)
  backbone_of (h ∷ hs) =
      All-cons (λ head. is_backbone (id_of head) ≡ true → backbone_entries (results_in db router (h ∷ hs)) ≡ (result_in db router head).entries) h hs here
      (λ k d l is. by (get_or hs k d) (is_backbone (id_of h)) refl (backbone_of hs k d l is) is)
    where
      picked : (c : Bool) → option_map_or (λ (r : AreaResultValue). r.entries) (cond c (Some (result_in db router h)) (backbone (results_in db router hs))) []
          ≡ cond c (result_in db router h).entries (backbone_entries (results_in db router hs))
      picked true = refl
      picked false = refl

      first : (b : Bool) → is_backbone (id_of h) ≡ b → backbone_entries (results_in db router (h ∷ hs))
          ≡ cond b (result_in db router h).entries (backbone_entries (results_in db router hs))
      first b e =
          ap
          (λ c. option_map_or (λ (r : AreaResultValue). r.entries) (cond c (Some (result_in db router h)) (backbone (results_in db router hs))) [])
          (ap is_backbone (area_is db router h) ∙ e)
          ∙ picked b

      here : is_backbone (id_of h) ≡ true → backbone_entries (results_in db router (h ∷ hs)) ≡ (result_in db router h).entries
      here is = first true is

      by : (head : AreaHead) (b : Bool) → is_backbone (id_of h) ≡ b
          → backbone_entries (results_in db router hs) ≡ (result_in db router head).entries → is_backbone (id_of head) ≡ true
          → backbone_entries (results_in db router (h ∷ hs)) ≡ (result_in db router head).entries
      by head true e rest is = first true e ∙ same_given h head e is
      by head false e rest is = first false e ∙ rest

-- ---- the preferred entry

module _ (asbr : RouterId) (P : EntryValue → Type 0) where
  pub preferred_is : (es : List EntryValue) → All (λ e. is_asbr asbr e ≡ true → P e) es → IfSome (least preference (filter (is_asbr asbr) es)) P
  preferred_is [] all = tt
  preferred_is (e ∷ es) all =
      let Q : EntryValue → Type 0 = λ x. is_asbr asbr x ≡ true → P x in
      by (is_asbr asbr e) refl (All-head Q e es all) (preferred_is es (All-tail Q e es all))
    where
      least_one : (o : Option EntryValue) → P e → IfSome o P → P (lesser preference e o)
      least_one None h rest = h
      least_one (Some l) h rest = at (is_lt (preference l e))
        where
          at : (b : Bool) → P (cond b l e)
          at true = rest
          at false = h

      by : (b : Bool) → is_asbr asbr e ≡ b → (is_asbr asbr e ≡ true → P e) → IfSome (least preference (filter (is_asbr asbr) es)) P
          → IfSome (least preference (cond b (e ∷ filter (is_asbr asbr) es) (filter (is_asbr asbr) es))) P
      by true h here rest = least_one (least preference (filter (is_asbr asbr) es)) (here h) rest
      by false h here rest = rest

-- the properties of the preferred entry, where there is one
pub first_entry : (db : Lists) (router : RouterId) (heads : List AreaHead) (asbr : RouterId)
    → IfSome (least preference (filter (is_asbr asbr) (entries_of_all (results_in db router heads)))) (IsFirst db router heads asbr)
first_entry db router heads asbr =
    preferred_is asbr (IsFirst db router heads asbr) (entries_of_all (results_in db router heads))
    (fit_results db router heads asbr heads (backbone_of db router heads))

-- ---- no entry

none_of : (asbr : RouterId) (es : List EntryValue) → filter (is_asbr asbr) es ≡ [] → has_asbr es asbr ≡ false
none_of asbr [] h = refl
none_of asbr (e ∷ es) h = by (is_asbr asbr e) refl h (none_of asbr es)
  where
    unwanted : (kind : EntryKind) (same : Bool) → (is_asbr_kind kind && same) ≡ false → (same_kind kind AsbrIntra && same) ≡ false
    unwanted Border same k = refl
    unwanted AsbrIntra same k = k
    unwanted AsbrInter same k = refl

    by : (b : Bool) → is_asbr asbr e ≡ b → cond b (e ∷ filter (is_asbr asbr) es) (filter (is_asbr asbr) es) ≡ []
        → (filter (is_asbr asbr) es ≡ [] → has_asbr es asbr ≡ false) → has_asbr (e ∷ es) asbr ≡ false
    by true k none rest = absurd cc
    by false k none rest =
        ap (λ b. is_some (cond b (Some e) (find (λ x. same_kind x.kind AsbrIntra && same_router x.router asbr) es)))
        (unwanted e.kind (same_router e.router asbr) k)
        ∙ rest none

no_parts : {X : Type 0} (xs ys : List X) → xs ++ ys ≡ [] → (xs ≡ []) × (ys ≡ [])
no_parts [] ys h = (refl, h)
no_parts (x ∷ xs) ys h = absurd cc

-- where no area has an entry of an AS boundary router, the backbone has none
pub backbone_lacks : (asbr : RouterId) (rs : List AreaResultValue) → filter (is_asbr asbr) (entries_of_all rs) ≡ []
    → (r : AreaResultValue) → backbone rs ≡ Some r → has_asbr r.entries asbr ≡ false
backbone_lacks asbr [] none r h = absurd cc
backbone_lacks asbr (x ∷ xs) none r h =
    let parts = no_parts (filter (is_asbr asbr) x.entries) (filter (is_asbr asbr) (entries_of_all xs))
    (sym (filter-append (is_asbr asbr) x.entries (entries_of_all xs)) ∙ none) in
    by (is_backbone x.area) h parts.0 (backbone_lacks asbr xs parts.1 r)
  where
    by : (b : Bool) → cond b (Some x) (backbone xs) ≡ Some r → filter (is_asbr asbr) x.entries ≡ []
        → (backbone xs ≡ Some r → has_asbr r.entries asbr ≡ false) → has_asbr r.entries asbr ≡ false
    by true k here rest = let is : x ≡ r = cc in ap (λ (y : AreaResultValue). has_asbr y.entries asbr) (sym is) ∙ none_of asbr x.entries here
    by false k here rest = rest k
