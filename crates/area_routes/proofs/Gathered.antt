-- The inter-area routes and all router entries, put together.
use Rattle.std.proofs.Common.{◌≡◌, ◌<◌, ◌^◌, List, [], ◌++◌, Some, None, sym, ap, ◌∙◌, arith}
use Rattle.std.proofs.lemmas.List.{append-nil}
use Rattle.std.proofs.lemmas.List.Elements.{All-append}
use Rattle.lsa_codec.specs.declared.address.RouterId.{RouterId}
use Rattle.lsdb.specs.declared.section.Section.TheVariants.{Area}
use Rattle.lsdb.specs.Lists.{Lists, lsas_of}
use Rattle.area_routes.specs.Inter.{entries_by, entries_of_all, examined, inter_entries, inter_of, inter_routes, routes_by}
use Rattle.area_routes.specs.Values.{AreaResultValue, EntriesBelow, EntryValue}
use Rattle.best_ways.specs.Values.{RouteValue}

module _ (lists : Lists) (router : RouterId) (results : List AreaResultValue) (intra : List RouteValue)
    (routes : List RouteValue) (routers : List EntryValue) where
  -- where no area is examined
  pub inter_none : None ≡ examined results → routes ≡ [] → routers ≡ entries_of_all results
      → record { routes = routes; routers = routers } ≡ inter_of lists router results intra
  unfolding inter_of
  inter_none none no_routes all i = record {
    routes = (no_routes ∙ ap (routes_by lists router intra) none) i;
    routers = (all ∙ sym (append-nil (entries_of_all results)) ∙ ap (λ o. entries_of_all results ++ entries_by lists router o) none) i;
  }

  -- where an area is examined
  pub inter_some : (area : AreaResultValue) → Some area ≡ examined results → routes ≡ inter_routes router area intra (lsas_of (Area area.area) lists)
      → routers ≡ entries_of_all results ++ inter_entries router area (lsas_of (Area area.area) lists)
      → record { routes = routes; routers = routers } ≡ inter_of lists router results intra
  unfolding inter_of
  inter_some area found by_routes all i = record {
    routes = (by_routes ∙ ap (routes_by lists router intra) found) i;
    routers = (all ∙ ap (λ o. entries_of_all results ++ entries_by lists router o) found) i;
  }

-- a greater bound
pub wider : (entries : List EntryValue) → EntriesBelow (2 ^ 33) entries → EntriesBelow (2 ^ 34) entries
wider entries a k d l = let h = a k d l in omega arith

pub joined_below : (xs ys : List EntryValue) → EntriesBelow (2 ^ 33) xs → EntriesBelow (2 ^ 34) ys → EntriesBelow (2 ^ 34) (xs ++ ys)
joined_below xs ys a b = All-append (λ (e : EntryValue). e.cost < 2 ^ 34) xs ys (wider xs a) b
