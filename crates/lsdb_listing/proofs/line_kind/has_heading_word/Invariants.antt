use Rattle.std.proofs.Common.{◌≡◌, length}
use Rattle.frr_text.specs.Words.{words}
use Rattle.lsdb_listing.specs.Headings.{has_heading_word}
use Rattle.lsdb_listing.proofs.line_kind.has_heading_word.Given as goal

abbrev pub invariant-loop-word : goal.invariant-loop-word
invariant-loop-word l = has_heading_word (words l.rest) ≡ has_heading_word (words l.line)

abbrev pub decreases-loop-word : goal.decreases-loop-word
decreases-loop-word l = length l.rest
