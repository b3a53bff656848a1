-- Routes are in order of prefix, each prefix once.
use Rattle.std.proofs.Common.{◌≡◌, List, [], ◌∷◌, Option, None, map, refl, sym, ap, subst}
use Rattle.std.specs.List.Sorted.{IsStrictlySortedBy}
use Rattle.std.specs.Map.{keys_of}
use Rattle.lsa_codec.specs.declared.address.AreaId.{AreaId}
use Rattle.lsa_codec.specs.Prefix.{Net}
use Rattle.best_ways.specs.Best.{ways_of}
use Rattle.best_ways.specs.Candidate.{Candidate}
use Rattle.lsa_codec.specs.Order.{prefix_cmp}
use Rattle.best_ways.specs.Routes.{AreSortedRoutes, nets, route_through, routes_of}
use Rattle.best_ways.specs.Values.{WayValue}
use Rattle.best_ways.proofs.Merging.{sorted_ways}
use Rattle.lsa_codec.proofs.OrderLemmas.{prefix_exact, prefix_total}

nets_ways : (area : Option AreaId) (es : List (Net × WayValue)) → nets (map (route_through area) es) ≡ keys_of es
nets_ways area [] = refl
nets_ways area (e ∷ es) = ap (λ l. e.0 ∷ l) (nets_ways area es)

pub sorted_through : (area : Option AreaId) (cs : List (Candidate Net)) → AreSortedRoutes (map (route_through area) (ways_of prefix_cmp cs))
sorted_through area cs =
    let P : List Net → Type 0 = λ ks. IsStrictlySortedBy prefix_cmp ks in
    subst P (sym (nets_ways area (ways_of prefix_cmp cs))) (sorted_ways prefix_total prefix_exact cs)

pub sorted_routes : (cs : List (Candidate Net)) → AreSortedRoutes (routes_of cs)
sorted_routes cs = sorted_through None cs

pub no_routes_sorted : AreSortedRoutes []
unfolding IsStrictlySortedBy
no_routes_sorted = tt
