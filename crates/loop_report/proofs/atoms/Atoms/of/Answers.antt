use Rattle.loop_report.specs.Atoms.{nets_of_all}
use Rattle.lost_routes.proofs.GatheredLemmas.{gathers_all, gathers_both}
use Rattle.loop_report.proofs.atoms.Atoms.of.Goals as goal

pub returns : goal.returns
returns g c =
    gathers_all _ _ _ c.new-nets.ensures.empty
    (gathers_both (nets_of_all c.args.was.now.routers) (nets_of_all c.args.is.now.routers) _ _ _ c.in_ok-insert_nets.ensures c.in_ok-insert_nets-2.ensures)
