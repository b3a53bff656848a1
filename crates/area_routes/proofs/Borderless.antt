-- An area without area border routers, from which no way leads to other areas.
use Rattle.std.proofs.Common.{◌≡◌, ℕ, List, map, sym, [], ◌∷◌, Option, None, Some, refl, ap, ◌∙◌}
use Rattle.std.specs.List.{cons_option, filter_map}
use Rattle.std.specs.Option.{option_and_then, option_map}
use Rattle.lsa_codec.specs.declared.address.RouterId.{RouterId}
use Rattle.lsa_codec.specs.Order.{router_cmp}
use Rattle.best_ways.specs.Best.{ways_of}
use Rattle.area_routes.specs.Inter.{asbr_candidate, asbr_entry, announced_asbr, border_of, by_border, candidate_to, inter_entries, inter_routes, network_candidate, announced_network, originator_of, usable_metric}
use Rattle.best_ways.specs.Routes.{routes_of}
use Rattle.area_routes.specs.Values.{AreaResultValue}
use Rattle.best_ways.specs.Values.{RouteValue}
use Rattle.area_routes.specs.steps.EntryIndex.{IsBorderless}

then_none : {X Y : Type 0} (f : X → Option Y) → ((x : X) → f x ≡ None) → (o : Option X) → option_and_then f o ≡ None
then_none f none None = refl
then_none f none (Some x) = none x

filter_none : {X Y : Type 0} (f : X → Option Y) → ((x : X) → f x ≡ None) → (xs : List X) → filter_map f xs ≡ []
filter_none f none [] = refl
filter_none {X} {Y} f none (x ∷ xs) = ap (λ (o : Option Y). cons_option o (filter_map f xs)) (none x) ∙ filter_none f none xs

module _ (router : RouterId) (area : AreaResultValue) (borderless : IsBorderless area) where
  no_candidate : {K : Type 0} (lsa : List ℕ) (key : K) → candidate_to router area lsa key ≡ None
  no_candidate lsa key =
      then_none (λ metric. option_map (by_border key area.area metric) (border_of area.entries (originator_of lsa)))
      (λ metric. ap (option_map (by_border key area.area metric)) (borderless (originator_of lsa))) (usable_metric router lsa)

  pub no_routes : (intra : List RouteValue) (lsas : List (List ℕ)) → [] ≡ inter_routes router area intra lsas
  no_routes intra lsas =
      sym (ap routes_of (filter_none (network_candidate router area intra)
      (λ lsa. then_none (candidate_to router area lsa) (no_candidate lsa) (announced_network intra lsa)) lsas))

  pub no_entries : (lsas : List (List ℕ)) → [] ≡ inter_entries router area lsas
  no_entries lsas =
      sym (ap (λ cs. map (asbr_entry area.area) (ways_of router_cmp cs)) (filter_none (asbr_candidate router area)
      (λ lsa. then_none (candidate_to router area lsa) (no_candidate lsa) (announced_asbr router area lsa)) lsas))
