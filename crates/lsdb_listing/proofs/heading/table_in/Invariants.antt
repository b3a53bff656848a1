use Rattle.std.proofs.Common.{◌≡◌, drop}
use Rattle.frr_text.specs.Words.{words}
use Rattle.lsdb_listing.specs.Headings.{titles, table_among}
use Rattle.lsdb_listing.proofs.heading.table_in.Given as goal

abbrev pub invariant-loop-title : goal.invariant-loop-title
invariant-loop-title l = table_among (drop l.title-index titles) (words l.line) ≡ table_among titles (words l.line)
