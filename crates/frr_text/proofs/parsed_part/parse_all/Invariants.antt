use Rattle.std.proofs.Common.{◌≡◌, ◌++◌, None, length}
use Rattle.frr_text.specs.Words.{words}
use Rattle.frr_text.specs.ParsedParts.{parsed_in}
use Rattle.frr_text.proofs.parsed_part.parse_all.Given as goal

abbrev pub invariant-loop-word : goal.invariant-loop-word
invariant-loop-word g l = l.parsed.items ++ parsed_in l.area (words l.rest) ≡ parsed_in None (words l.text)

abbrev pub decreases-loop-word : goal.decreases-loop-word
decreases-loop-word g l = length l.rest
