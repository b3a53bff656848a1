use Rattle.std.proofs.Common.{sym, ◌∙◌}
use Rattle.ospf_packets.proofs.Fronts.{summed_up}
use Rattle.ospf_packets.proofs.checksum.is_checksum_good.Goals as goal

pub returns : goal.returns
returns c =
    summed_up c.args.packet.now _ _ (sym c.has_checksum.ensures ∙ c.if-not-has_checksum.false) c.sum_of_words.ensures.sum
    c.sum_of_words-2.ensures.sum
