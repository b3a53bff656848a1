-- What sets gain from the LSAs of one area more.
use Rattle.std.proofs.Common.{◌≡◌, ◌∙◌, ◌+◌, ◌≤◌, ℕ, List, ◌++◌, Some, length, take, sym, ap}
use Rattle.std.specs.List.{slice_get}
use Rattle.lsa_codec.specs.Prefix.{Net}
use Rattle.lsdb.specs.Lists.{AreaHead, Lists, areas_of}
use Rattle.routing_table.specs.AreaLsas.{area_lsas, lsas_in}
use Rattle.routing_table.proofs.AreaLsaLemmas.{lsas_all, lsas_among, lsas_more}
use Rattle.lost_routes.specs.Gathering.{Gathers}
use Rattle.lost_routes.proofs.GatheredLemmas.{gathers_both, gathers_same}

module _ (db : Lists) (g : List (List ℕ) → List Net) where
  -- the prefixes of some areas
  abbrev pub among : List AreaHead → List Net
  among areas = g (lsas_among db areas)

  pub area_more : ((xs ys : List (List ℕ)) → g (xs ++ ys) ≡ g xs ++ g ys) → (i : ℕ) (area : AreaHead) → slice_get (areas_of db) i ≡ Some area
      → (lsas : List (List ℕ)) → lsas ≡ lsas_in db area → (old mid new : List Net)
      → Gathers (among (take i (areas_of db))) old mid → Gathers (g lsas) mid new → Gathers (among (take (i + 1) (areas_of db))) old new
  area_more joins i area here lsas same old mid new so_far one =
      let before : List (List ℕ) = lsas_among db (take i (areas_of db)) in
      gathers_same (g before ++ g lsas) (among (take (i + 1) (areas_of db))) old new
      (ap (λ (l : List (List ℕ)). g before ++ g l) same ∙ sym (ap g (lsas_more db i area here) ∙ joins before (lsas_in db area)))
      (gathers_both (g before) (g lsas) old mid new so_far one)

  pub areas_done : (i : ℕ) (old new : List Net) → length (areas_of db) ≤ i → Gathers (among (take i (areas_of db))) old new → Gathers (g (area_lsas db)) old new
  areas_done i old new past from = gathers_same (among (take i (areas_of db))) (g (area_lsas db)) old new (ap g (lsas_all db i past)) from
