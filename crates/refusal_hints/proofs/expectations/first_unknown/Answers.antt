use Rattle.std.proofs.Common.{◌≡◌, ◌||◌, ◌∙◌, List, Option, Vec, ap, not, option_map, sym}
use Rattle.std.specs.List.{find}
use Rattle.area_graph.specs.Rising.{rising}
use Rattle.lsa_codec.specs.Order.{router_cmp}
use Rattle.lsa_codec.specs.declared.address.RouterId.{RouterId}
use Rattle.routing_table.specs.Routers.{attached_routers}
use Rattle.refusal_hints.specs.ExpectationHints.{first_unknown}
use Rattle.refusal_hints.specs.Situation.{is_among}
use Rattle.refusal_hints.proofs.expectations.first_unknown.Goals as goal

abbrev unknown : List RouterId → List RouterId → List RouterId → Option RouterId
unknown now before those = find (λ router. not (is_among now router || is_among before router)) those

-- the same lists have the same first one
by_lists : (now here before there those all : List RouterId) → now ≡ here → before ≡ there → those ≡ all → unknown now before those ≡ unknown here there all
by_lists now here before there those all is was are =
    ap (λ l. unknown l before those) is ∙ ap (λ l. unknown here l those) was ∙ ap (unknown here there) are

pub returns : goal.returns
returns g c =
    let s = c.args.situation.now in
    let those = c.in-Some.those.items in
    c.unknown_among.ensures
    ∙ by_lists c.deref-2.result.now (attached_routers s.database) c.deref-3.result.now (attached_routers s.baseline)
    c.deref-4.result.now (rising router_cmp those)
    (c.deref-2.ensures.value ∙ c.in_ok-now.ensures) (c.deref-3.ensures.value ∙ c.in_ok-before.ensures)
    (c.deref-4.ensures.value ∙ c.in_ok-those.ensures ∙ ap (rising router_cmp) c.deref.ensures.value)
    ∙ sym (ap (λ (o : Option (Vec RouterId g.row.A.Denot)). first_unknown s (option_map (λ routers. routers.items) o)) c.in-Some.is)
