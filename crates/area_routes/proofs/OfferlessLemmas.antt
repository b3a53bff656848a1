-- Routes between areas, and router entries, do not depend on the ways to prefixes that areas offer.
use Rattle.std.proofs.Common.{◌≡◌, Bool, true, false, cond, List, [], ◌∷◌, ◌++◌, map, Option, None, Some, refl, sym, ap, ◌∙◌}
use Rattle.std.specs.Option.{option_map}
use Rattle.lsa_codec.specs.Areas.{is_backbone}
use Rattle.lsa_codec.specs.declared.address.RouterId.{RouterId}
use Rattle.lsdb.specs.Lists.{Lists}
use Rattle.area_routes.specs.Inter.{backbone, entries_by, entries_of_all, examined, inter_of, routes_by}
use Rattle.area_routes.specs.Intra.{without_offers}
use Rattle.area_routes.specs.Values.{AreaResultValue, EntryValue}
use Rattle.best_ways.specs.Values.{RouteValue}

backbone_without : (rs : List AreaResultValue) → backbone (map without_offers rs) ≡ option_map without_offers (backbone rs)
backbone_without [] = refl
backbone_without (r ∷ rs) = by (is_backbone r.area) (backbone_without rs)
  where
    by : (b : Bool) → backbone (map without_offers rs) ≡ option_map without_offers (backbone rs)
        → cond b (Some (without_offers r)) (backbone (map without_offers rs)) ≡ option_map without_offers (cond b (Some r) (backbone rs))
    by true rest = refl
    by false rest = rest

examined_without : (rs : List AreaResultValue) → examined (map without_offers rs) ≡ option_map without_offers (examined rs)
examined_without [] = refl
examined_without (r ∷ []) = refl
examined_without (r ∷ s ∷ rs) = backbone_without (r ∷ s ∷ rs)

entries_without : (rs : List AreaResultValue) → entries_of_all (map without_offers rs) ≡ entries_of_all rs
entries_without [] = refl
entries_without (r ∷ rs) = ap (λ (es : List EntryValue). r.entries ++ es) (entries_without rs)

module _ (lists : Lists) (router : RouterId) (intra : List RouteValue) where
  routes_without : (o : Option AreaResultValue) → routes_by lists router intra (option_map without_offers o) ≡ routes_by lists router intra o
  routes_without None = refl
  routes_without (Some r) = refl

  asbrs_without : (o : Option AreaResultValue) → entries_by lists router (option_map without_offers o) ≡ entries_by lists router o
  asbrs_without None = refl
  asbrs_without (Some r) = refl

  inter_without : (rs : List AreaResultValue) → inter_of lists router (map without_offers rs) intra ≡ inter_of lists router rs intra
  unfolding inter_of
  inter_without rs =
      let routes : routes_by lists router intra (examined (map without_offers rs)) ≡ routes_by lists router intra (examined rs) =
      ap (routes_by lists router intra) (examined_without rs) ∙ routes_without (examined rs) in
      let entries : entries_by lists router (examined (map without_offers rs)) ≡ entries_by lists router (examined rs) =
      ap (entries_by lists router) (examined_without rs) ∙ asbrs_without (examined rs) in
      λ i. record { routes = routes i; routers = entries_without rs i ++ entries i }

  -- results that differ by their offers alone
  pub same_inter : (rs ss : List AreaResultValue) → map without_offers rs ≡ map without_offers ss → inter_of lists router rs intra ≡ inter_of lists router ss intra
  same_inter rs ss same =
      sym (inter_without rs) ∙ ap (λ (xs : List AreaResultValue). inter_of lists router xs intra) same ∙ inter_without ss
