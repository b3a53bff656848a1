use Rattle.std.proofs.Common.{Some, sym, ap, ◌∙◌}
use Rattle.lsdb.specs.Lists.{is_network}
use Rattle.interfaces.proofs.Finding.{find_here, find_later, find_none}
use Rattle.interfaces.proofs.networks.network_lsa_in.Goals as goal

pub returns-then-is_network : goal.returns-then-is_network
returns-then-is_network g c =
    ap Some c.lsa-lsa.ensures
    ∙ find_here (is_network c.args.network) c.args.used.now c.loop-vertex.vertex-index c.vertex-item.result c.loop-vertex-test.true c.vertex-item.is
    (ap (is_network c.args.network) (sym c.lsa-lsa.ensures) ∙ sym c.is_network.ensures ∙ c.if-is_network.true) c.loop-vertex.invariant

pub loop-vertex-preserved : goal.loop-vertex-preserved
loop-vertex-preserved g c =
    find_later (is_network c.args.network) c.args.used.now c.loop-vertex.vertex-index c.vertex-item.result c.loop-vertex-test.true c.vertex-item.is
    (ap (is_network c.args.network) (sym c.lsa-lsa.ensures) ∙ sym c.is_network.ensures ∙ c.if-is_network.false) c.loop-vertex.invariant

pub returns : goal.returns
returns g c =
    find_none (is_network c.args.network) c.args.used.now c.loop-vertex.vertex-index c.loop-vertex-test.false c.loop-vertex.invariant
