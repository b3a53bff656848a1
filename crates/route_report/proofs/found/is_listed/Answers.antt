use Rattle.std.proofs.Common.{ℕ, ◌==◌, List, sym}
use Rattle.std.proofs.lemmas.Bool.{and_parts, eqb-true}
use Rattle.lsa_codec.specs.Fields.{kind_of, link_state_id_of}
use Rattle.lsa_codec.specs.LsTypes.{network_lsa}
use Rattle.lsdb.specs.Lists.{is_network}
use Rattle.route_report.proofs.Finding.{find_passes}
use Rattle.route_report.proofs.found.is_listed.Goals as goal

-- the LSA that is found is a network-LSA
pub returns-in-None : goal.returns-in-None
returns-in-None g c =
    let lsa : List ℕ = c.in-Some.lsa.now in
    let passes = find_passes (is_network c.args.network) c.args.used.now lsa (sym c.in-Some.ensures) in
    absurd (c.in-None.ensures (eqb-true (kind_of lsa) network_lsa
    (and_parts (kind_of lsa == network_lsa) (link_state_id_of lsa == c.args.network.0) passes).0))
