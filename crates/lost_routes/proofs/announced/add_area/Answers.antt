use Rattle.std.proofs.Common.{ap}
use Rattle.std.specs.List.{filter_map, flat_map}
use Rattle.std.proofs.lemmas.Iterator.Consumers.{YieldsList-end, YieldsList-from_first}
use Rattle.area_routes.proofs.AddsLemmas.{filter_map_adds, flat_map_adds}
use Rattle.lost_routes.specs.Announced.{live_networks, summary_prefix}
use Rattle.lost_routes.proofs.GatheredLemmas.{gathers_push_now, gathers_same, gathers_some, gathers_start}
use Rattle.lost_routes.proofs.announced.add_area.Goals as goal

pub loop-lsa-init : goal.loop-lsa-init
loop-lsa-init g c = (gathers_start (flat_map_adds live_networks) _, gathers_start (filter_map_adds summary_prefix) _)

pub loop-lsa-preserved : goal.loop-lsa-preserved
loop-lsa-preserved g c = (
  gathers_push_now (flat_map_adds live_networks) c.loop-lsa.yielded c.in-Some.lsa _ _ _ c.loop-lsa.invariant.0 c.in_ok-add_live_networks.ensures,
  gathers_push_now (filter_map_adds summary_prefix) c.loop-lsa.yielded c.in-Some.lsa _ _ _ c.loop-lsa.invariant.1
      (gathers_some _ _ _ _ c.summary_prefix.ensures c.in_ok-add_some.ensures),
)

pub returns-clause-networks : goal.returns-clause-networks
returns-clause-networks g c =
    let seen = YieldsList-end (YieldsList-from_first (λ lsa. lsa.now) (λ lsas. lsas) c.args.lsas c.into_iter-lsa-iterator.ensures.into_iter_gives)
    c.loop-lsa.yielded _ c.loop-lsa.yielded_by _ _ c.in-None.is c.next.ensures.steps in
    gathers_same _ _ _ _ (ap (flat_map live_networks) seen.0) c.loop-lsa.invariant.0

pub returns-clause-summaries : goal.returns-clause-summaries
returns-clause-summaries g c =
    let seen = YieldsList-end (YieldsList-from_first (λ lsa. lsa.now) (λ lsas. lsas) c.args.lsas c.into_iter-lsa-iterator.ensures.into_iter_gives)
    c.loop-lsa.yielded _ c.loop-lsa.yielded_by _ _ c.in-None.is c.next.ensures.steps in
    gathers_same _ _ _ _ (ap (filter_map summary_prefix) seen.0) c.loop-lsa.invariant.1
