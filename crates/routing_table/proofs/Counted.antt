-- The results of the areas of a router, area after area, and how many trees were counted for them.
use Rattle.std.proofs.Common.{◌≡◌, ℕ, zero, suc, ◌+◌, ◌≤◌, Bool, true, false, cond, List, [], ◌∷◌, ◌++◌, take, filter, length, Some, sym, ap, ◌∙◌, arith}
use Rattle.std.proofs.Common.{true≢false}
use Rattle.std.specs.List.{slice_get}
use Rattle.std.proofs.lemmas.List.{append-nil, map-append, take_more, take_all}
use Rattle.std.proofs.lemmas.List.Elements.{filter-append}
use Rattle.std.proofs.lemmas.Option.{get_or_from_slice_get, slice_get_within}
use Rattle.lsa_codec.specs.declared.address.RouterId.{RouterId}
use Rattle.lsdb.specs.Lists.{AreaHead, Lists, areas_of}
use Rattle.spf.specs.Distances.{counted}
use Rattle.area_routes.specs.Values.{AreaResultValue}
use Rattle.area_routes.specs.Attached.{is_attached}
use Rattle.routing_table.specs.AreaTrees.{missing}
use Rattle.routing_table.specs.Counting.{counted_by, CountsAtMost}
use Rattle.routing_table.specs.Tables.{result_in, results_in}

-- whether the router is attached to an area
abbrev pub joins : Lists → RouterId → AreaHead → Bool
joins db router area = is_attached db (record { 0 = area.id }) router

-- those of some areas to which it is
abbrev pub attached_among : Lists → RouterId → List AreaHead → List AreaHead
attached_among db router areas = filter (joins db router) areas

module _ (db : Lists) (router : RouterId) (i : ℕ) (area : AreaHead) (here : slice_get (areas_of db) i ≡ Some area) where
  pub among_more : attached_among db router (take (i + 1) (areas_of db)) ≡ attached_among db router
      (take i (areas_of db)) ++ cond (joins db router area) (area ∷ []) []
  among_more =
      ap (attached_among db router)
      (take_more (areas_of db) i area (slice_get_within (areas_of db) i area here)
      ∙ ap (λ a. take i (areas_of db) ++ a ∷ []) (get_or_from_slice_get (areas_of db) i area area here))
      ∙ filter-append (joins db router) (take i (areas_of db)) (area ∷ [])

  -- an area that the router is attached to
  pub more_results : (old new : List AreaResultValue) (given : AreaResultValue)
      → old ≡ results_in db router (attached_among db router (take i (areas_of db))) → joins db router area ≡ true
      → given ≡ result_in db router area → new ≡ old ++ given ∷ [] → new ≡ results_in db router (attached_among db router (take (i + 1) (areas_of db)))
  more_results old new given before joined is pushed =
      pushed ∙ ap (λ l. l ++ given ∷ []) before ∙ ap (λ x. results_in db router (attached_among db router (take i (areas_of db))) ++ x ∷ []) is
      ∙ sym (map-append (result_in db router) (attached_among db router (take i (areas_of db))) (area ∷ []))
      ∙ ap (λ b. results_in db router (attached_among db router (take i (areas_of db)) ++ cond b (area ∷ []) [])) (sym joined)
      ∙ ap (results_in db router) (sym among_more)

  -- another one
  pub same_results : (old : List AreaResultValue) → old ≡ results_in db router (attached_among db router (take i (areas_of db))) → joins db router area ≡ false
      → old ≡ results_in db router (attached_among db router (take (i + 1) (areas_of db)))
  same_results old before apart =
      before ∙ ap (results_in db router) (sym (append-nil (attached_among db router (take i (areas_of db))))
      ∙ ap (λ b. attached_among db router (take i (areas_of db)) ++ cond b (area ∷ []) []) (sym apart) ∙ sym among_more)

-- all areas
pub all_results : (db : Lists) (router : RouterId) (i : ℕ) (results : List AreaResultValue) → length (areas_of db) ≤ i
    → results ≡ results_in db router (attached_among db router (take i (areas_of db))) → results ≡ results_in db router (attached_among db router (areas_of db))
all_results db router i results past is = is ∙ ap (λ areas. results_in db router (attached_among db router areas)) (take_all i (areas_of db) past)

-- ---- how many trees were counted, whatever came of them

pub counted_twice : (j k n : ℕ) → counted_by j (counted_by k n) ≡ counted_by (j + k) n
counted_twice zero k n = let none : k ≡ zero + k = omega arith in ap (λ m. counted_by m n) none
counted_twice (suc j) k n = let one : suc (j + k) ≡ suc j + k = omega arith in ap counted (counted_twice j k n) ∙ ap (λ m. counted_by m n) one

-- a tree that was not there was calculated
pub one_missing : (is_there : Bool) (old new : ℕ) → is_there ≡ false → new ≡ counted old → CountsAtMost (missing is_there) old new
one_missing true old new absent one = absurd (true≢false absent)
one_missing false old new absent one = record { trees = 1; few = omega arith; counts = one }
