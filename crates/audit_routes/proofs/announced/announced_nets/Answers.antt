use Rattle.std.proofs.Common.{◌∙◌, List, ℕ, ap}
use Rattle.std.specs.List.{filter_map}
use Rattle.std.proofs.lemmas.Iterator.Consumers.{YieldsList-end, YieldsList-from_first}
use Rattle.lsa_codec.specs.Order.{prefix_cmp}
use Rattle.area_graph.specs.Rising.{rising}
use Rattle.area_routes.proofs.AddsLemmas.{filter_map_adds}
use Rattle.lost_routes.proofs.GatheredLemmas.{gathers_all, gathers_push_now, gathers_start}
use Rattle.audit_routes.specs.Missing.{announced_net}
use Rattle.audit_routes.proofs.announced.announced_nets.Goals as goal

pub loop-lsa-init : goal.loop-lsa-init
loop-lsa-init g c = gathers_start (filter_map_adds (announced_net c.args.router)) _

pub loop-lsa-preserved : goal.loop-lsa-preserved
loop-lsa-preserved g c =
    gathers_push_now (filter_map_adds (announced_net c.args.router)) c.loop-lsa.yielded c.in-Some.lsa _ _ _ c.loop-lsa.invariant c.in_ok-add_net.ensures

pub returns : goal.returns
returns g c =
    let seen = YieldsList-end (YieldsList-from_first (λ lsa. lsa.now) (λ lsas. lsas) c.args.lsas c.into_iter-lsa-iterator.ensures.into_iter_gives)
    c.loop-lsa.yielded _ c.loop-lsa.yielded_by _ _ c.in-None.is c.next.ensures.steps in
    gathers_all _ _ _ c.new-nets.ensures.empty c.loop-lsa.invariant
    ∙ ap (λ (lsas : List (List ℕ)). rising prefix_cmp (filter_map (announced_net c.args.router) lsas)) seen.0
