use Rattle.lost_routes.specs.Lost.{lacks}
use Rattle.lost_routes.proofs.GatheredLemmas.{gathers_at, gathers_start, gathers_taken}
use Rattle.lost_routes.proofs.Missing.{filter_adds}
use Rattle.lost_routes.proofs.lost.add_missing.Goals as goal

pub loop-net-init : goal.loop-net-init
loop-net-init g c = gathers_start (filter_adds (lacks c.args.is.now)) _

pub loop-net-preserved : goal.loop-net-preserved
loop-net-preserved g c =
    gathers_at (filter_adds (lacks c.args.is.now)) c.args.nets.now c.loop-net.net-index c.net-item.result _ _ _ c.loop-net-test.true c.net-item.is
    c.loop-net.invariant c.in_ok-add_if_missing.ensures

pub returns : goal.returns
returns g c = gathers_taken (filter_adds (lacks c.args.is.now)) c.args.nets.now c.loop-net.net-index _ _ c.loop-net-test.false c.loop-net.invariant
