use Rattle.ospf_packets.proofs.Slices.{few_last}
use Rattle.ospf_packets.proofs.fragment.last_few.Goals as goal

pub returns : goal.returns
returns c = few_last c.args.frames.now c.saturating_sub.result c.saturating_sub.ensures
