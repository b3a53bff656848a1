use Rattle.std.proofs.Common.{◌≡◌, ◌++◌, ◌∙◌, List, map, ap}
use Rattle.std.proofs.lemmas.List.Filters.{dedup_is}
use Rattle.area_graph.specs.Rising.{rising}
use Rattle.lsa_codec.specs.Order.{router_cmp}
use Rattle.lsa_codec.specs.declared.address.RouterId.{RouterId}
use Rattle.lsa_codec.proofs.OrderLemmas.{router_exact, router_total}
use Rattle.best_ways.proofs.RisingLemmas.{dedup_rising}
use Rattle.routing_table.specs.Routers.{attached_routers}
use Rattle.forwarding.specs.Matches.{RouterValue}
use Rattle.comparison.proofs.Steps.{equal_routers, ids_are}
use Rattle.comparison.proofs.all_changes.routers_of_both.Goals as goal

pub returns : goal.returns
returns g c =
    let both = c.args.comparison.now in
    let ids : List RouterValue → List RouterId = map (λ r. r.router) in
    let before : c.in_ok-routers.routers.items ≡ attached_routers both.baseline =
    c.in_ok-routers.ensures ∙ ap ids (c.routers.ensures.routers ∙ c.were.ensures.routers) ∙ ids_are both.baseline (attached_routers both.baseline) in
    let now : c.in_ok-more.more.items ≡ attached_routers both.present =
    c.in_ok-more.ensures ∙ ap ids (c.routers-2.ensures.routers ∙ c.are.ensures.routers) ∙ ids_are both.present (attached_routers both.present) in
    dedup_is _ _ _ c.dedup.ensures.filtered
    ∙ dedup_rising router_total router_exact equal_routers _ _ c.sort.ensures.permutation c.in_ok-sort.ensures.sorted
    ∙ ap (rising router_cmp)
    (c.in_ok-append.ensures.items ∙ ap (λ (l : List RouterId). l ++ c.in_ok-more.more.items) before
    ∙ ap (λ (l : List RouterId). attached_routers both.baseline ++ l) now)
