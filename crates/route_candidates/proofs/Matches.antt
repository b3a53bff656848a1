-- The match of a forwarding address among routes and one route more.
use Rattle.std.proofs.Common.{◌≡◌, Bool, true, false, List, [], ◌∷◌, ◌++◌, Option, Some, filter, cond, sym, ap, ◌∙◌}
use Rattle.std.specs.Cmp.{IsTotalOrder}
use Rattle.std.proofs.lemmas.Cmp.{back_total, nat_cmp_total, on_total}
use Rattle.std.proofs.lemmas.List.{append-nil}
use Rattle.std.proofs.lemmas.List.Elements.{filter-append}
use Rattle.lsa_codec.specs.declared.address.Addr.{Addr}
use Rattle.area_graph.specs.Least.{later, least}
use Rattle.best_ways.proofs.LeastLemmas.{least_push}
use Rattle.best_ways.specs.Values.{RouteValue}
use Rattle.external_routes.specs.Choose.{covers, forward_match, longer}

-- longer prefixes first is a total order
longer_total : IsTotalOrder longer
longer_total = back_total (on_total (λ (r : RouteValue). r.net.len) nat_cmp_total)

module _ (routes : List RouteValue) (route : RouteValue) (addr : Addr) (best : Option RouteValue) (was : best ≡ forward_match routes addr) where
  parted : (b : Bool) → covers route.net addr ≡ b
      → filter (λ (r : RouteValue). covers r.net addr) (routes ++ route ∷ []) ≡ filter (λ (r : RouteValue). covers r.net addr) routes ++ cond b (route ∷ []) []
  parted b is =
      filter-append (λ (r : RouteValue). covers r.net addr) routes (route ∷ [])
      ∙ ap (λ (t : Bool). filter (λ (r : RouteValue). covers r.net addr) routes ++ cond t (route ∷ []) []) is

  pub match_more_yes : covers route.net addr ≡ true → Some (later longer best route) ≡ forward_match (routes ++ route ∷ []) addr
  match_more_yes is =
      ap (λ (o : Option RouteValue). Some (later longer o route)) was
      ∙ sym (least_push longer_total (filter (λ (r : RouteValue). covers r.net addr) routes) route)
      ∙ ap (least longer) (sym (parted true is))

  pub match_more_no : covers route.net addr ≡ false → best ≡ forward_match (routes ++ route ∷ []) addr
  match_more_no is =
      was ∙ ap (least longer) (sym (append-nil (filter (λ (r : RouteValue). covers r.net addr) routes)) ∙ sym (parted false is))
