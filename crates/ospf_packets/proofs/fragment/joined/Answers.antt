use Rattle.std.proofs.Common.{Bool, arith, ap, sym, ◌∙◌}
use Rattle.ospf_packets.specs.Datagrams.{datagram_text}
use Rattle.ospf_packets.proofs.Joins.{ended, onward}
use Rattle.ospf_packets.proofs.fragment.joined.Goals as goal

pub returns-then-branch : goal.returns-then-branch
returns-then-branch g c =
    ended (datagram_text c.args.first) c.loop-frame.payload.items c.add_fragment.new.payload.items c.args.frames.now
    c.loop-frame.frame-index _ _ c.in_ok-add_fragment.field-0 (omega arith) c.if-branch.true c.in_ok-add_fragment.ensures c.loop-frame.invariant

pub loop-frame-preserved : goal.loop-frame-preserved
loop-frame-preserved g c =
    onward (datagram_text c.args.first) c.loop-frame.payload.items c.add_fragment.new.payload.items c.args.frames.now
    c.loop-frame.frame-index _ _ (omega arith)
    (ap (λ (is_end : Bool). (c.add_fragment.new.payload.items, is_end)) (sym c.if-branch.false) ∙ c.in_ok-add_fragment.ensures)
    c.loop-frame.invariant
