use Rattle.std.proofs.Common.{arith}
use Rattle.ospf_packets.proofs.ParsedFrames.{parsed_all}
use Rattle.ospf_packets.proofs.parsed_frame.parse_all.Goals as goal

pub returns : goal.returns
returns g c = parsed_all c.loop-index.parsed.items c.args.frames.now c.loop-index.index _ (omega arith) c.loop-index.invariant
