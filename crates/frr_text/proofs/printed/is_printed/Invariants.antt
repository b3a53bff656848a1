use Rattle.std.proofs.Common.{◌≡◌, length}
use Rattle.frr_text.specs.Words.{words}
use Rattle.frr_text.specs.Headings.{is_printed}
use Rattle.frr_text.proofs.printed.is_printed.Given as goal

abbrev pub invariant-loop-word : goal.invariant-loop-word
invariant-loop-word l = is_printed (words l.rest) ≡ is_printed (words l.text)

abbrev pub decreases-loop-word : goal.decreases-loop-word
decreases-loop-word l = length l.rest
