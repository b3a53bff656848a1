use Rattle.std.proofs.Common.{◌≡◌, ◌++◌, length}
use Rattle.frr_text.specs.Words.{words}
use Rattle.frr_text.specs.Rows.{rows_in}
use Rattle.frr_text.proofs.row.put_rows.Given as goal

abbrev pub invariant-loop-word : goal.invariant-loop-word
invariant-loop-word g l = l.parts.items ++ rows_in (words l.rest) ≡ l.initial.parts.items ++ rows_in (words l.text)

abbrev pub decreases-loop-word : goal.decreases-loop-word
decreases-loop-word g l = length l.rest
