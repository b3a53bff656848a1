use Rattle.std.proofs.Common.{◌∙◌, List, take, get_or, sym, ap}
use Rattle.std.specs.BTreeSet.{insert_key}
use Rattle.std.proofs.lemmas.Iterator.{items_from_collect}
use Rattle.std.proofs.lemmas.Iterator.Consumers.{YieldsList-from_rest}
use Rattle.std.proofs.lemmas.List.{take_all, take_more}
use Rattle.std.proofs.lemmas.Result.{IfOk-weaker}
use Rattle.lsa_codec.specs.Order.{router_cmp}
use Rattle.lsa_codec.specs.declared.address.RouterId.{RouterId}
use Rattle.lsa_codec.proofs.OrderLemmas.{router_exact, router_total}
use Rattle.area_graph.specs.Rising.{rising}
use Rattle.hop_ends.proofs.RisingMembersLemmas.{insert_last}
use Rattle.hop_ends.proofs.rising.in_order.Goals as goal

abbrev no_router : RouterId
no_router = record { 0 = 0 }

pub loop-router-preserved : goal.loop-router-preserved
loop-router-preserved g c =
    let routers = c.args.routers.now in
    let i = c.loop-router.router-index in
    let router = get_or routers i no_router in
    c.in_ok-insert.ensures.keys
    ∙ ap (λ (ks : List RouterId). insert_key router_cmp ks router) c.loop-router.invariant
    ∙ insert_last router_total router_exact (take i routers) router
    ∙ ap (rising router_cmp) (sym (take_more routers i no_router c.loop-router-test.true))

pub returns : goal.returns
returns g c =
    IfOk-weaker c.collect.result _ _
    (λ v h. h ∙ c.loop-router.invariant
    ∙ ap (rising router_cmp) (take_all c.loop-router.router-index c.args.routers.now c.loop-router-test.false))
    (items_from_collect c.collect.result c.collect.ensures.ran (YieldsList-from_rest c.loop-router.found.keys c.into_iter.ensures.into_iter_gives.0))
