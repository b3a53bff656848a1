-- For callers: the LSAs of all areas, area after area.
use Rattle.std.proofs.Common.{◌≡◌, ℕ, ◌+◌, ◌≤◌, List, [], ◌∷◌, ◌++◌, take, length, Some, sym, ap, ◌∙◌}
use Rattle.std.specs.List.{flat_map, slice_get}
use Rattle.std.proofs.lemmas.List.{flat_map_more, take_all, take_more}
use Rattle.std.proofs.lemmas.Option.{get_or_from_slice_get, slice_get_within}
use Rattle.lsdb.specs.Lists.{AreaHead, Lists, areas_of}
use Rattle.routing_table.specs.AreaLsas.{area_lsas, lsas_in}

-- the LSAs of some areas
abbrev pub lsas_among : Lists → List AreaHead → List (List ℕ)
lsas_among db areas = flat_map (lsas_in db) areas

module _ (db : Lists) (i : ℕ) (area : AreaHead) (here : slice_get (areas_of db) i ≡ Some area) where
  -- one area more
  pub lsas_more : lsas_among db (take (i + 1) (areas_of db)) ≡ lsas_among db (take i (areas_of db)) ++ lsas_in db area
  lsas_more =
      ap (lsas_among db)
      (take_more (areas_of db) i area (slice_get_within (areas_of db) i area here)
      ∙ ap (λ a. take i (areas_of db) ++ a ∷ []) (get_or_from_slice_get (areas_of db) i area area here))
      ∙ sym (flat_map_more (lsas_in db) [] (take i (areas_of db)) area)

  pub total_more : (total : List (List ℕ) → ℕ) → ((xs ys : List (List ℕ)) → total (xs ++ ys) ≡ total xs + total ys) → (old more : ℕ)
      → old ≡ total (lsas_among db (take i (areas_of db))) → more ≡ total (lsas_in db area) → old + more ≡ total (lsas_among db (take (i + 1) (areas_of db)))
  total_more total adds old more before one =
      ap (λ n. n + more) before ∙ ap (λ n. total (lsas_among db (take i (areas_of db))) + n) one
      ∙ sym (ap total lsas_more ∙ adds (lsas_among db (take i (areas_of db))) (lsas_in db area))

-- all areas
pub lsas_all : (db : Lists) (i : ℕ) → length (areas_of db) ≤ i → lsas_among db (take i (areas_of db)) ≡ area_lsas db
lsas_all db i past = ap (lsas_among db) (take_all i (areas_of db) past)
