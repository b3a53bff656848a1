use Rattle.std.proofs.Common.{◌≡◌, length}
use Rattle.ospf_packets.specs.Links.{after_type}
use Rattle.ospf_packets.proofs.link.after_type.Given as goal

abbrev pub invariant-tags : goal.invariant-tags
invariant-tags l = after_type l.kind l.rest ≡ after_type l.fn.kind l.bytes

abbrev pub decreases-tags : goal.decreases-tags
decreases-tags l = length l.rest
