use Rattle.std.proofs.Common.{◌≡◌, ◌++◌, None, length}
use Rattle.lsdb_listing.specs.Lines.{lines}
use Rattle.lsdb_listing.specs.ParsedLines.{parsed_in}
use Rattle.lsdb_listing.proofs.parsed_line.parse_all.Given as goal

abbrev pub invariant-loop-line : goal.invariant-loop-line
invariant-loop-line g l = l.parsed.items ++ parsed_in l.heading (lines l.rest) ≡ parsed_in None (lines l.text)

abbrev pub decreases-loop-line : goal.decreases-loop-line
decreases-loop-line g l = length l.rest
