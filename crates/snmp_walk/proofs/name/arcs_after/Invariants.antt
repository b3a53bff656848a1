use Rattle.std.proofs.Common.{◌≡◌, length}
use Rattle.std.specs.List.{slice_split}
use Rattle.snmp_walk.specs.Text.{is_dot}
use Rattle.snmp_walk.specs.Names.{arcs_after}
use Rattle.snmp_walk.proofs.name.arcs_after.Given as goal

abbrev pub invariant-loop-word : goal.invariant-loop-word
invariant-loop-word g l = arcs_after l.arcs.items (slice_split is_dot l.rest) ≡ arcs_after l.fn.front.items (slice_split is_dot l.words)

abbrev pub decreases-loop-word : goal.decreases-loop-word
decreases-loop-word g l = length l.rest
