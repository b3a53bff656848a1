-- The IDs of the areas that a router is attached to, one area after another, and which areas it borders by them.
use Rattle.std.proofs.Common.{◌≡◌, ℕ, ◌+◌, ◌≤◌, Bool, true, false, cond, List, [], ◌∷◌, ◌++◌, take, filter, length, map, Some, refl, sym, ap, ◌∙◌}
use Rattle.std.specs.Prelude.{◌==◌, ◌&&◌, ◌||◌, not}
use Rattle.std.specs.List.{list_any, slice_get}
use Rattle.std.proofs.lemmas.Bool.{eqb-true}
use Rattle.std.proofs.lemmas.List.{append-nil, map-append, take_all}
use Rattle.lsa_codec.specs.declared.address.AreaId.{AreaId}
use Rattle.lsa_codec.specs.declared.address.RouterId.{RouterId}
use Rattle.lsdb.specs.Lists.{AreaHead, Lists, areas_of}
use Rattle.area_routes.specs.Attached.{attached_areas, is_attached}
use Rattle.external_routes.specs.Summaries.{borders, is_attached_elsewhere, is_head_of_area}
use Rattle.routing_table.proofs.TableLemmas.{among_more, attached_among, joins}
use Rattle.summary_metrics.specs.Refreshed.{id_of}
use Rattle.summary_metrics.specs.SummaryMetrics.{ids_attached}
use Rattle.summary_metrics.specs.steps.AnnouncedCosts.{is_border_of}
use Rattle.summary_metrics.proofs.Several.{attached_here}

-- ---- one area after another

-- the IDs of those areas among some that the router is attached to
abbrev pub ids_among : Lists → RouterId → List AreaHead → List AreaId
ids_among db router areas = map id_of (attached_among db router areas)

module _ (db : Lists) (router : RouterId) (i : ℕ) (head : AreaHead) (here : slice_get (areas_of db) i ≡ Some head) where
  abbrev before : List AreaHead
  before = attached_among db router (take i (areas_of db))

  -- an area that the router is attached to
  pub more_ids : (old new : List AreaId) → old ≡ ids_among db router (take i (areas_of db)) → joins db router head ≡ true
      → new ≡ old ++ id_of head ∷ [] → new ≡ ids_among db router (take (i + 1) (areas_of db))
  more_ids old new is joined pushed =
      pushed ∙ ap (λ l. l ++ id_of head ∷ []) is ∙ sym (map-append id_of before (head ∷ []))
      ∙ ap (λ b. map id_of (before ++ cond b (head ∷ []) [])) (sym joined) ∙ ap (map id_of) (sym (among_more db router i head here))

  -- an area that it is not attached to
  pub same_ids : (old : List AreaId) → old ≡ ids_among db router (take i (areas_of db)) → joins db router head ≡ false
      → old ≡ ids_among db router (take (i + 1) (areas_of db))
  same_ids old is apart =
      is ∙ ap (map id_of) (sym (append-nil before) ∙ ap (λ b. before ++ cond b (head ∷ []) []) (sym apart) ∙ sym (among_more db router i head here))

-- all areas
pub all_ids : (db : Lists) (router : RouterId) (i : ℕ) (ids : List AreaId) → length (areas_of db) ≤ i
    → ids ≡ ids_among db router (take i (areas_of db)) → ids ≡ ids_attached db router
all_ids db router i ids past is = is ∙ ap (λ areas. ids_among db router areas) (take_all i (areas_of db) past)

-- ---- the areas that it borders

any_map : {X Y : Type 0} (p : Y → Bool) (f : X → Y) (xs : List X) → list_any p (map f xs) ≡ list_any (λ x. p (f x)) xs
any_map p f [] = refl
any_map p f (x ∷ xs) = ap (λ b. p (f x) || b) (any_map p f xs)

-- a test that passes on a remaining element passes only where the test that chose the elements does
any_chosen : {X : Type 0} (p q : X → Bool) (b : Bool) (xs : List X) → ((x : X) → p x ≡ true → q x ≡ b) → list_any p (filter q xs) ≡ true → b ≡ true
any_chosen p q b [] announces any = absurd cc
any_chosen p q b (x ∷ xs) announces any = by (p x) (q x) refl refl any (any_chosen p q b xs announces)
  where
    by : (here chosen : Bool) → p x ≡ here → q x ≡ chosen → list_any p (cond chosen (x ∷ filter q xs) (filter q xs)) ≡ true
        → (list_any p (filter q xs) ≡ true → b ≡ true) → b ≡ true
    by true true h c a rest = sym (announces x h) ∙ c
    by false true h c a rest = rest (ap (λ t. t || list_any p (filter q xs)) (sym h) ∙ a)
    by here false h c a rest = rest a

same_truth : (a b : Bool) → (a ≡ true → b ≡ true) → (b ≡ true → a ≡ true) → a ≡ b
same_truth true b there back = sym (there refl)
same_truth false true there back = back refl
same_truth false false there back = refl

module _ (db : Lists) (area : AreaId) (router : RouterId) where
  attached_is : list_any (is_head_of_area area) (attached_areas db router) ≡ is_attached db area router
  attached_is =
      same_truth (list_any (is_head_of_area area) (attached_areas db router)) (is_attached db area router)
      (any_chosen (is_head_of_area area) (joins db router) (is_attached db area router) (areas_of db)
      (λ head is. ap (λ n. is_attached db (record { 0 = n }) router) (eqb-true head.id area.0 is)))
      (attached_here db area router)

  -- borders by the IDs of the router's areas
  pub borders_by_ids : (ids : List AreaId) → ids ≡ ids_attached db router → is_border_of area ids ≡ borders db area router
  borders_by_ids ids is =
      ap (is_border_of area) is
      ∙ (λ i. any_map (λ a. a.0 == area.0) id_of (attached_areas db router) i && any_map (λ a. not (a.0 == area.0)) id_of (attached_areas db router) i)
      ∙ ap (λ b. b && is_attached_elsewhere db area router) attached_is
