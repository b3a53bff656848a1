use Rattle.lsa_codec.specs.Links.{stub_net}
use Rattle.area_routes.proofs.AddsLemmas.{filter_map_adds}
use Rattle.lost_routes.proofs.GatheredLemmas.{gathers_push, gathers_some, gathers_start}
use Rattle.lost_routes.proofs.announced.add_stubs.Goals as goal

pub loop-link-init : goal.loop-link-init
loop-link-init g c = gathers_start (filter_map_adds stub_net) _

pub loop-link-preserved : goal.loop-link-preserved
loop-link-preserved g c =
    gathers_push (filter_map_adds stub_net) c.loop-link.yielded c.in-Some.link _ _ _ c.loop-link.invariant
    (gathers_some _ _ _ _ c.net.ensures c.in_ok-add_some.ensures)
