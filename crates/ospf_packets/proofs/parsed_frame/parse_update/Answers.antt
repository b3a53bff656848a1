use Rattle.std.proofs.Common.{◌++◌, ap, ◌∙◌, arith}
use Rattle.std.proofs.lemmas.Result.{on_ok_weaker}
use Rattle.ospf_packets.proofs.Fronts.{updated}
use Rattle.ospf_packets.proofs.parsed_frame.parse_update.Goals as goal

pub returns : goal.returns
returns g c =
    let before = c.args.parsed.now.items in
    let same = updated {A = g.row.A.Denot} c.args.by c.args.packet.now c.u32_at-count.result (omega arith) c.u32_at-count.ensures in
    on_ok_weaker c.parse_lsas.result (λ h. h ∙ ap (λ t. before ++ t) same) c.parse_lsas.ensures
