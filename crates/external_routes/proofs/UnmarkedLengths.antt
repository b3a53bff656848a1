-- Prefixes of lengths that no route has.
use Rattle.std.proofs.Common.{◌≡◌, ℕ, ◌<◌, Bool, true, false, List, length, get_or, refl, sym, ap, ◌∙◌}
use Rattle.std.specs.Prelude.{is_some}
use Rattle.std.specs.Ordering.{eq_by_cmp}
use Rattle.std.proofs.lemmas.Bool.{false≢true}
use Rattle.std.specs.Cmp.{Equal-is}
use Rattle.lsa_codec.specs.Order.{prefix_cmp}
use Rattle.lsa_codec.specs.Prefix.{Net}
use Rattle.lsa_codec.proofs.OrderLemmas.{prefix_exact}
use Rattle.best_ways.specs.Routes.{has_route}
use Rattle.best_ways.specs.Values.{RouteValue}
use Rattle.external_routes.specs.steps.Lookup.{MarksLengths}
use Rattle.external_routes.proofs.Longest.{find_none}

-- whether a route leads to a prefix
abbrev leads_to : Net → RouteValue → Bool
leads_to net r = eq_by_cmp prefix_cmp net r.net

-- no route leads to a prefix of a length that is not marked
pub unmarked_no_route : (routes : List RouteValue) (marks : List Bool) → MarksLengths routes marks
    → (net : Net) → get_or marks net.len false ≡ false → has_route routes net ≡ false
unmarked_no_route routes marks marked net unmarked =
    ap is_some (find_none (leads_to net) routes (λ k d lt. by k d lt (leads_to net (get_or routes k d)) refl))
  where
    by : (k : ℕ) (d : RouteValue) → k < length routes → (b : Bool) → leads_to net (get_or routes k d) ≡ b → b ≡ false
    by k d lt true is =
        let r : RouteValue = get_or routes k d in
        let same : net ≡ r.net = prefix_exact net r.net ((Equal-is (prefix_cmp net r.net)).0 is) in
        absurd (false≢true (sym unmarked ∙ ap (λ (n : Net). get_or marks n.len false) same ∙ (marked k d lt).marked))
    by k d lt false is = refl
