use Rattle.std.proofs.Common.{List, [], ◌∷◌, refl}
use Rattle.lsa_codec.specs.Prefix.{Net}
use Rattle.area_routes.proofs.AddsLemmas.{Adds}
use Rattle.lost_routes.proofs.GatheredLemmas.{gathers_at, gathers_one, gathers_start, gathers_taken}
use Rattle.loop_report.proofs.nets.insert_all.Goals as goal

-- a list of prefixes has one after another
each_adds : Adds (λ (nets : List Net). nets) (λ net. net ∷ [])
each_adds = record { none = refl; push = λ nets net. refl }

pub loop-net-init : goal.loop-net-init
loop-net-init g c = gathers_start each_adds c.args.found.now.keys

pub loop-net-preserved : goal.loop-net-preserved
loop-net-preserved g c =
    gathers_at each_adds c.args.nets.now c.loop-net.net-index c.net-item.result c.args.found.now.keys c.loop-net.found.keys c.insert.new.self.keys
    c.loop-net-test.true c.net-item.is c.loop-net.invariant (gathers_one c.net-item.result _ _ c.in_ok-insert.ensures.keys)

pub returns : goal.returns
returns g c = gathers_taken each_adds c.args.nets.now c.loop-net.net-index c.args.found.now.keys c.loop-net.found.keys c.loop-net-test.false c.loop-net.invariant
