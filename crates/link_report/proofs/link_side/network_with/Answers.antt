use Rattle.std.proofs.Common.{sym, ◌∙◌}
use Rattle.link_report.proofs.ByKey.{is_network_lsa, viewed_network}
use Rattle.link_report.proofs.link_side.network_with.Goals as goal

pub returns : goal.returns
returns g c =
    let lsa = c.in_ok-lsa.lsa.now in
    viewed_network c.network.result lsa c.network.ensures (is_network_lsa c.args.used.now c.args.address lsa (sym c.in_ok-lsa.ensures))
    ∙ c.in_ok-lsa.ensures
