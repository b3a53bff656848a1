use Rattle.std.proofs.Common.{◌∙◌, ◌++◌, ◌+◌, List, sym, ap, take}
use Rattle.lsa_codec.specs.Prefix.{Net}
use Rattle.loop_report.specs.Atoms.{nets_of, nets_of_all}
use Rattle.lost_routes.proofs.GatheredLemmas.{gathers_same}
use Rattle.loop_report.proofs.Again.{added_again, one_more}
use Rattle.loop_report.proofs.nets.insert_nets.Goals as goal

pub loop-routes-preserved : goal.loop-routes-preserved
loop-routes-preserved g c =
    let routers = c.routers-routes-items.result.now in
    let index = c.loop-routes.routes-index in
    let before : List Net = nets_of_all (take index routers) in
    let old = c.args.found.now.keys in
    let mid = c.loop-routes.found.keys in
    let new = c.insert_unless_there.new.found.keys in
    let nets : List Net = c.in_ok-nets.nets.items in
    let there = gathers_same _ _ old mid (ap (λ (l : List Net). before ++ l) (sym c.deref.ensures.value)) c.loop-routes.invariant.1 in
    let added = c.in_ok-insert_unless_there.ensures before old c.loop-routes.invariant.0 there in
    added_again (nets_of_all (take (index + 1) routers)) before nets old new
    (ap (λ (l : List Net). before ++ l) c.in_ok-nets.ensures
    ∙ one_more nets_of routers index c.routes-item.result c.loop-routes-test.true c.routes-item.is)
    (gathers_same _ _ old new (ap (λ (l : List Net). before ++ l) c.deref-in-loop-routes.ensures.value) added)
