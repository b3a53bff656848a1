use Rattle.std.proofs.Common.{length, take}
use Rattle.std.specs.String.{string_bytes}
use Rattle.capture_lines.specs.Reports.{HaveListTexts}
use Rattle.capture_lines.proofs.Pairs.{pairs}
use Rattle.capture_lines.proofs.against.against_lines.Given as goal
use Rattle.lsdb.specs.Slots.{lists_of}

abbrev pub invariant-loop-name : goal.invariant-loop-name
invariant-loop-name g l = HaveListTexts (lists_of l.database) (take (length l.yielded) (pairs l.names l.lists)) (string_bytes l.lines)
