use Rattle.std.proofs.Common.{◌≡◌, ℕ, ◌&&◌, false, not, cond, List, [], ◌∷◌, sym, ap, ◌∙◌}
use Rattle.std.specs.List.{list_any}
use Rattle.std.specs.BTreeMap.{get}
use Rattle.std.proofs.lemmas.Result.{on_ok_weaker}
use Rattle.lsa_codec.specs.Prefix.{Net}
use Rattle.lsa_codec.specs.Views.{net_of_lsa}
use Rattle.area_graph.specs.Area.{is_network_lsa}
use Rattle.next_hops.specs.declared.hop.Hop.{Hop}
use Rattle.lsa_codec.specs.Order.{prefix_cmp}
use Rattle.area_routes.specs.Networks.{beats, network_offer}
use Rattle.area_routes.specs.steps.Standings.{is_after, standing_of, unbeaten}
use Rattle.area_routes.specs.declared.networks.Standing.{Standing}
use Rattle.area_routes.specs.steps.Growing.{with_offers}
use Rattle.area_routes.specs.Reached.{ReachedValue}
use Rattle.area_routes.specs.Values.{OfferValue}
use Rattle.area_routes.proofs.Beaten.{prefix_of_network}
use Rattle.area_routes.proofs.networks.add_network.Goals as goal

pub returns : goal.returns
returns g c =
    let r : ReachedValue = c.args.reached.now in
    let is = prefix_of_network (is_network_lsa r.lsa) c.in-Some.net (net_of_lsa r.lsa) c.in-Some.ensures in
    let ahead : is_after (get prefix_cmp c.args.standings.now (net_of_lsa r.lsa)) (standing_of r) ≡ false =
    ap (λ (n : Net). is_after (get prefix_cmp c.args.standings.now n) (standing_of r)) (sym is.1)
    ∙ ap (λ (s : Standing). is_after (get prefix_cmp c.args.standings.now c.in-Some.net) s) (sym c.standing_of.ensures)
    ∙ sym c.is_after.ensures ∙ c.if-is_after.false in
    let offered : record { net = c.in-Some.net; cost = c.distance.result; hops = c.hops.result.now } ≡ network_offer r =
    ap (λ (n : Net). record { net = n; cost = c.distance.result; hops = c.hops.result.now }) is.1
    ∙ ap (λ (d : ℕ). record { net = net_of_lsa r.lsa; cost = d; hops = c.hops.result.now }) c.distance.ensures.distance
    ∙ ap (λ (hops : List Hop). record { net = net_of_lsa r.lsa; cost = r.distance; hops = hops }) c.hops.ensures in
    on_ok_weaker c.add.result
    (λ new ns are.
    let all : unbeaten ns r ≡ network_offer r ∷ [] =
    ap (λ b. cond (b && not (list_any (λ m. beats m r) ns)) (network_offer r ∷ []) []) is.0
    ∙ ap (λ b. cond (not b) (network_offer r ∷ []) []) (are (net_of_lsa r.lsa) (standing_of r) ∙ ahead) in
    new ∙ ap (λ (o : OfferValue). with_offers c.args.ways.now (o ∷ [])) offered
    ∙ sym (ap (λ (os : List OfferValue). with_offers c.args.ways.now os) all))
    c.add.ensures
