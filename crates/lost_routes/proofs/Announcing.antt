-- Pairs of routers and prefixes, one LSA after another.
use Rattle.std.proofs.Common.{◌≡◌, ℕ, ◌+◌, Bor, List, ◌∷◌, [], ◌++◌, Some, map, take, sym, ap, ◌∙◌}
use Rattle.std.specs.Prelude.{◌==◌, flat_map}
use Rattle.std.specs.Cmp.{unsigned_ties}
use Rattle.std.specs.List.{slice_get}
use Rattle.std.specs.Ordering.{eq_by_cmp}
use Rattle.std.proofs.lemmas.Grind.{flat_map-append}
use Rattle.std.proofs.lemmas.List.{flat_map_more, map-append}
use Rattle.lsa_codec.specs.Order.{router_cmp}
use Rattle.lsa_codec.specs.declared.address.RouterId.{RouterId}
use Rattle.lsdb.specs.Lists.{AreaHead, Lists, areas_of}
use Rattle.routing_table.specs.AreaLsas.{lsas_in}
use Rattle.routing_table.proofs.AreaLsaLemmas.{lsas_among, lsas_more}
use Rattle.lost_routes.specs.declared.pairs.RouterPrefix.{RouterPrefix}

pub equal_routers : (x y : RouterId) → (x.0 == y.0) ≡ eq_by_cmp router_cmp x y
equal_routers x y = unsigned_ties x.0 y.0

module _ (by : List ℕ → List RouterPrefix) where
  abbrev now : Bor (List ℕ) → List ℕ
  now lsa = lsa.now

  -- those of one more LSA
  pub added : (start : List RouterPrefix) (lsas : List (Bor (List ℕ))) (lsa : Bor (List ℕ)) (old new : List RouterPrefix)
      → old ≡ start ++ flat_map by (map (λ (l : Bor (List ℕ)). l.now) lsas) → new ≡ old ++ by lsa.now
      → new ≡ start ++ flat_map by (map (λ (l : Bor (List ℕ)). l.now) (lsas ++ lsa ∷ []))
  added start lsas lsa old new are more =
      more ∙ ap (λ l. l ++ by lsa.now) are ∙ flat_map_more by start (map now lsas) lsa.now
      ∙ ap (λ l. start ++ flat_map by l) (sym (map-append now lsas (lsa ∷ [])))

  -- those of one more area
  pub area_added : (db : Lists) (i : ℕ) (area : AreaHead) → slice_get (areas_of db) i ≡ Some area → (lsas : List (List ℕ)) → lsas ≡ lsas_in db area
      → (old new : List RouterPrefix) → old ≡ flat_map by (lsas_among db (take i (areas_of db))) → new ≡ old ++ flat_map by lsas
      → new ≡ flat_map by (lsas_among db (take (i + 1) (areas_of db)))
  area_added db i area here lsas same old new are more =
      let before = lsas_among db (take i (areas_of db)) in
      more ∙ ap (λ l. l ++ flat_map by lsas) are ∙ ap (λ (l : List (List ℕ)). flat_map by before ++ flat_map by l) same
      ∙ sym (flat_map-append by before (lsas_in db area)) ∙ ap (flat_map by) (sym (lsas_more db i area here))
