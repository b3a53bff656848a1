use Rattle.std.proofs.Common.{sym, ◌∙◌, arith}
use Rattle.ospf_packets.specs.Datagrams.{datagram_text}
use Rattle.ospf_packets.proofs.Joins.{front_there, front_onward, front_nowhere}
use Rattle.ospf_packets.proofs.fragment.has_front.Goals as goal

pub returns-then-leads_to : goal.returns-then-leads_to
returns-then-leads_to c =
    front_there (datagram_text c.args.fragment) c.args.frames.now c.loop-frame.frame-index _ _ (omega arith)
    (sym c.leads_to.ensures ∙ c.if-leads_to.true) c.loop-frame.invariant

pub loop-frame-preserved : goal.loop-frame-preserved
loop-frame-preserved c =
    front_onward (datagram_text c.args.fragment) c.args.frames.now c.loop-frame.frame-index _ _ (omega arith)
    (sym c.leads_to.ensures ∙ c.if-leads_to.false) c.loop-frame.invariant

pub returns : goal.returns
returns c =
    front_nowhere (datagram_text c.args.fragment) c.args.frames.now c.loop-frame.frame-index _ (omega arith) c.loop-frame.invariant
