use Rattle.std.proofs.Common.{ap}
use Rattle.std.specs.List.{filter_map}
use Rattle.std.proofs.lemmas.Iterator.Consumers.{YieldsList-end, YieldsList-from_first}
use Rattle.area_routes.proofs.AddsLemmas.{filter_map_adds}
use Rattle.lost_routes.specs.Announced.{external_prefix}
use Rattle.lost_routes.proofs.GatheredLemmas.{gathers_push_now, gathers_same, gathers_some, gathers_start}
use Rattle.lost_routes.proofs.announced.add_externals.Goals as goal

pub loop-lsa-init : goal.loop-lsa-init
loop-lsa-init g c = gathers_start (filter_map_adds external_prefix) _

pub loop-lsa-preserved : goal.loop-lsa-preserved
loop-lsa-preserved g c =
    gathers_push_now (filter_map_adds external_prefix) c.loop-lsa.yielded c.in-Some.lsa _ _ _ c.loop-lsa.invariant
    (gathers_some _ _ _ _ c.external_prefix.ensures c.in_ok-add_some.ensures)

pub returns : goal.returns
returns g c =
    let seen = YieldsList-end (YieldsList-from_first (λ lsa. lsa.now) (λ lsas. lsas) c.args.lsas c.into_iter-lsa-iterator.ensures.into_iter_gives)
    c.loop-lsa.yielded _ c.loop-lsa.yielded_by _ _ c.in-None.is c.next.ensures.steps in
    gathers_same _ _ _ _ (ap (filter_map external_prefix) seen.0) c.loop-lsa.invariant
