use Rattle.ospf_packets.proofs.Slices.{few_first}
use Rattle.ospf_packets.proofs.fragment.first_few.Goals as goal

pub returns : goal.returns
returns c = few_first c.args.frames.now c.min.result c.min.ensures
