-- The costs of ways by summary-LSAs.
use Rattle.std.proofs.Common.{◌≡◌, ℕ, ◌<◌, ◌^◌, Bool, true, false, List, map, Option, Some, None, IfSome, refl, arith}
use Rattle.std.specs.Prelude.{◌&&◌, not, nat_lt, if◌then◌else◌}
use Rattle.std.specs.List.{All, filter_map}
use Rattle.std.specs.Option.{option_and_then, option_map}
use Rattle.std.proofs.lemmas.Bool.{and_parts, ltb-true}
use Rattle.std.proofs.lemmas.List.Elements.{All-map}
use Rattle.lsa_codec.specs.declared.address.AreaId.{AreaId}
use Rattle.lsa_codec.specs.declared.address.RouterId.{RouterId}
use Rattle.lsa_codec.specs.Prefix.{Net}
use Rattle.lsa_codec.specs.Views.{metric_of, ls_infinity}
use Rattle.area_graph.specs.Area.{is_live}
use Rattle.area_routes.specs.declared.entry.EntryKind.TheVariants.{Border}
use Rattle.best_ways.specs.Best.{ways_of}
use Rattle.best_ways.specs.Candidate.{Candidate}
use Rattle.area_routes.specs.Inter.{asbr_candidate, asbr_entry, announced_asbr, border_of, by_border, candidate_to, is_summary, is_usable}
use Rattle.area_routes.specs.Inter.{network_candidate, announced_network, originator_of, same_kind, same_router}
use Rattle.lsa_codec.specs.Order.{router_cmp}
use Rattle.area_routes.specs.Values.{AreaResultValue, ResultBelow, EntriesBelow, EntryValue}
use Rattle.best_ways.specs.Values.{RouteValue}
use Rattle.best_ways.proofs.WayLemmas.{All-filter_map, found_has, ways_have}

-- a usable summary's metric is below LSInfinity
usable_below : (router : RouterId) (lsa : List ℕ) → is_usable router lsa ≡ true → metric_of lsa < ls_infinity
usable_below router lsa u =
    let below = nat_lt (metric_of lsa) ls_infinity in
    let other = not (same_router (originator_of lsa) router) in
    let summary = and_parts (is_summary lsa) (is_live lsa && (below && other)) u in
    let live = and_parts (is_live lsa) (below && other) summary.1 in
    ltb-true (metric_of lsa) ls_infinity (and_parts below other live.1).0

module _ (router : RouterId) (area : AreaResultValue) (below : ResultBelow (2 ^ 33) area) where
  candidate_below : {K : Type 0} (lsa : List ℕ) (key : K) → IfSome (candidate_to router area lsa key) (λ c. c.rank.cost < 2 ^ 34)
  candidate_below {K} lsa key = by (is_usable router lsa) refl
    where
      over : (metric : ℕ) → metric < ls_infinity → (o : Option EntryValue) → IfSome o (λ e. e.cost < 2 ^ 33)
          → IfSome (option_map (by_border key area.area metric) o) (λ (c : Candidate K). c.rank.cost < 2 ^ 34)
      over metric small None h = tt
      over metric small (Some e) h = omega arith

      by : (b : Bool) → is_usable router lsa ≡ b
          → IfSome (option_and_then (λ metric. option_map (by_border key area.area metric) (border_of area.entries (originator_of lsa)))
          (if b then Some (metric_of lsa) else None)) (λ (c : Candidate K). c.rank.cost < 2 ^ 34)
      by true u =
          over (metric_of lsa) (usable_below router lsa u) (border_of area.entries (originator_of lsa))
          (found_has (λ (e : EntryValue). e.cost < 2 ^ 33)
          (λ e. same_kind e.kind Border && same_router e.router (originator_of lsa)) area.entries below.entries)
      by false u = tt

  announced_below : {K : Type 0} (lsa : List ℕ) (announced : Option K) → IfSome (option_and_then (candidate_to router area lsa) announced) (λ c. c.rank.cost < 2 ^ 34)
  announced_below lsa None = tt
  announced_below lsa (Some key) = candidate_below lsa key

  pub networks_below : (intra : List RouteValue) (lsas : List (List ℕ))
      → All (λ c. c.rank.cost < 2 ^ 34) (filter_map (network_candidate router area intra) lsas)
  networks_below intra lsas = All-filter_map (λ (c : Candidate Net). c.rank.cost < 2 ^ 34)
      (network_candidate router area intra) (λ lsa. announced_below lsa (announced_network intra lsa)) lsas

  pub asbrs_below : (lsas : List (List ℕ)) → All (λ c. c.rank.cost < 2 ^ 34) (filter_map (asbr_candidate router area) lsas)
  asbrs_below lsas = All-filter_map (λ (c : Candidate RouterId). c.rank.cost < 2 ^ 34)
      (asbr_candidate router area) (λ lsa. announced_below lsa (announced_asbr router area lsa)) lsas

pub entries_below : (bound : ℕ) (area : AreaId) (cs : List (Candidate RouterId)) → All (λ c. c.rank.cost < bound) cs
    → EntriesBelow bound (map (asbr_entry area) (ways_of router_cmp cs))
entries_below bound area cs a = All-map (λ e. e.cost < bound) (asbr_entry area) (ways_of router_cmp cs) (ways_have (λ r. r.cost < bound) router_cmp cs a)
