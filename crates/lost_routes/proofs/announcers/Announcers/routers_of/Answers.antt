use Rattle.std.proofs.Common.{◌≡◌, ◌∙◌, map, rules, ap}
use Rattle.std.specs.List.{filter}
use Rattle.std.proofs.lemmas.List.Filters.{dedup_is}
use Rattle.area_graph.specs.Rising.{rising}
use Rattle.lsa_codec.specs.Order.{router_cmp}
use Rattle.lsa_codec.proofs.OrderLemmas.{router_exact, router_total}
use Rattle.best_ways.proofs.RisingLemmas.{dedup_rising}
use Rattle.lost_routes.specs.declared.pairs.RouterPrefix.{RouterPrefix}
use Rattle.lost_routes.specs.Announcers.{is_for}
use Rattle.lost_routes.proofs.Announcing.{equal_routers}
use Rattle.lost_routes.proofs.announcers.Announcers.routers_of.Goals as goal

pub returns : goal.returns
returns g c =
    let found : c.in_ok-routers.routers.items ≡ map (λ (p : RouterPrefix). p.router) (filter (is_for c.args.net) c.args.self.now) = search rules in
    dedup_is _ _ _ c.dedup.ensures.filtered
    ∙ dedup_rising router_total router_exact equal_routers _ _ c.sort.ensures.permutation c.in_ok-sort.ensures.sorted
    ∙ ap (rising router_cmp) found
