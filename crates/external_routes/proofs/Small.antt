-- The costs of external paths.
use Rattle.std.proofs.Common.{◌≡◌, ℕ, ◌+◌, ◌<◌, ◌^◌, Bool, true, false, cond, eqb, List, [], ◌∷◌, Option, Some, None, IfSome, refl, arith}
use Rattle.std.specs.Prelude.{◌&&◌, nat_lt}
use Rattle.std.specs.List.{All, filter_map, cons_option}
use Rattle.std.specs.Option.{option_and_then, option_map}
use Rattle.std.proofs.lemmas.Bool.{and_parts, ltb-true}
use Rattle.std.proofs.lemmas.List.Elements.{All-cons, All-head, All-nil, All-tail}
use Rattle.std.proofs.lemmas.List.Sorted.{All-permutation}
use Rattle.lsa_codec.specs.Fields.{kind_of}
use Rattle.lsa_codec.specs.Prefix.{Net}
use Rattle.lsa_codec.specs.declared.address.RouterId.{RouterId}
use Rattle.lsa_codec.specs.Views.{forward_of, is_type2_of, metric_of, net_of_lsa, ls_infinity}
use Rattle.area_graph.specs.Area.{is_live}
use Rattle.best_ways.specs.declared.rank.PathType.TheVariants.{Ext1, Ext2}
use Rattle.best_ways.specs.declared.rank.Rank.{Rank}
use Rattle.best_ways.specs.Candidate.{Candidate}
use Rattle.area_routes.specs.Inter.{originator_of, same_router}
use Rattle.best_ways.specs.Routes.{has_route}
use Rattle.area_routes.specs.Values.{EntriesBelow, EntryValue}
use Rattle.best_ways.specs.Values.{RouteValue, RoutesBelow}
use Rattle.best_ways.proofs.WayLemmas.{All-filter_map}
use Rattle.external_routes.specs.declared.external_lsas.ExternalLsa.{ExternalLsa}
use Rattle.external_routes.specs.Choose.{covers, entry_class, forward_match, is_asbr, longer, preference, preferred, route_class}
use Rattle.external_routes.specs.ExternalLsas.{AreExternalLsasOf, external_lsa, is_in_use}
use Rattle.external_routes.specs.steps.Paths.{by_entry, by_route, candidate_of, over, rank_over}
use Rattle.external_routes.proofs.First.{first_all}

abbrev IsSmall : Candidate Net → Type 0
IsSmall c = c.rank.cost < 2 ^ 35

abbrev HasMetric : ExternalLsa → Type 0
HasMetric x = x.metric < 2 ^ 24

rank_small : (x : ExternalLsa) (class cost : ℕ) → HasMetric x → cost < 2 ^ 34 → (rank_over x class cost).cost < 2 ^ 35
rank_small x class cost m c = by x.is_type2
  where
    by : (b : Bool) → (cond {A = Rank} b (record { path = Ext2; cost2 = x.metric; class = class; cost = cost })
        (record { path = Ext1; cost2 = 0; class = class; cost = cost + x.metric })).cost < 2 ^ 35
    by true = omega arith
    by false = omega arith

metric_below : (lsa : List ℕ) → IfSome (external_lsa lsa) HasMetric
metric_below lsa = by (is_in_use lsa) refl
  where
    by : (b : Bool) → is_in_use lsa ≡ b
        → IfSome (cond b (Some (record {
          net = net_of_lsa lsa;
          router = originator_of lsa;
          is_type2 = is_type2_of lsa;
          metric = metric_of lsa;
          forward = record { 0 = forward_of lsa };
        })) None) HasMetric
    by true h =
        let usable = and_parts (eqb (kind_of lsa) 5) (is_live lsa && nat_lt (metric_of lsa) ls_infinity) h in
        let rest = and_parts (is_live lsa) (nat_lt (metric_of lsa) ls_infinity) usable.1 in
        let below : metric_of lsa < ls_infinity = ltb-true (metric_of lsa) ls_infinity rest.1 in
        omega arith
    by false h = tt

module _ (router : RouterId) (routes : List RouteValue) (entries : List EntryValue)
    (routes_below : RoutesBelow (2 ^ 34) routes) (entries_below : EntriesBelow (2 ^ 34) entries) where
  path_small : (x : ExternalLsa) (e : EntryValue) → HasMetric x → e.cost < 2 ^ 34 → IfSome (over routes x e) IsSmall
  path_small x e m below = by (eqb x.forward.0 0)
    where
      matched : (o : Option RouteValue) → o ≡ forward_match routes x.forward → IfSome (option_map (by_route x) o) IsSmall
      matched None is = tt
      matched (Some r) is = rank_small x (route_class r) r.cost m
          (first_all longer (λ r. r.cost < 2 ^ 34) (λ r. covers r.net x.forward) routes r routes_below is)

      by : (b : Bool) → IfSome (cond b (Some (by_entry x e)) (option_map (by_route x) (forward_match routes x.forward))) IsSmall
      by true = rank_small x (entry_class e) e.cost m below
      by false = matched (forward_match routes x.forward) refl

  candidate_small : (x : ExternalLsa) → HasMetric x → IfSome (candidate_of router routes entries x) IsSmall
  candidate_small x m = by (same_router x.router router) (has_route routes x.net)
    where
      over_entry : (o : Option EntryValue) → o ≡ preferred entries x.router → IfSome (option_and_then (over routes x) o) IsSmall
      over_entry None is = tt
      over_entry (Some e) is = path_small x e m (first_all preference (λ e. e.cost < 2 ^ 34) (is_asbr x.router) entries e entries_below is)

      by : (own has : Bool) → IfSome (cond own None (cond has None (option_and_then (over routes x) (preferred entries x.router)))) IsSmall
      by true has = tt
      by false true = tt
      by false false = over_entry (preferred entries x.router) refl

  all_small : (xs : List ExternalLsa) → All HasMetric xs → All IsSmall (filter_map (candidate_of router routes entries) xs)
  all_small [] a = All-nil IsSmall
  all_small (x ∷ xs) a =
      by (candidate_of router routes entries x) (candidate_small x (All-head HasMetric x xs a)) (all_small xs (All-tail HasMetric x xs a))
    where
      by : (o : Option (Candidate Net)) → IfSome o IsSmall → All IsSmall (filter_map (candidate_of router routes entries) xs)
          → All IsSmall (cons_option o (filter_map (candidate_of router routes entries) xs))
      by None h rest = rest
      by (Some c) h rest = All-cons IsSmall c (filter_map (candidate_of router routes entries) xs) h rest

  pub candidates_small : (lsas : List (List ℕ)) (found : List ExternalLsa) → AreExternalLsasOf lsas found
      → All IsSmall (filter_map (candidate_of router routes entries) found)
  candidates_small lsas found are =
      all_small found (All-permutation HasMetric (filter_map external_lsa lsas) found are (All-filter_map HasMetric external_lsa metric_below lsas))
