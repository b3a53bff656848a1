use Rattle.frr_text.specs.Words.{words}
use Rattle.lsdb_listing.specs.Lines.{lines}
use Rattle.lsdb_listing.proofs.ParsedLines.{first_line, last_line, parsed_next, parsed_last}
use Rattle.lsdb_listing.proofs.parsed_line.parse_all.Goals as goal

pub loop-line-preserved : goal.loop-line-preserved
loop-line-preserved g c =
    parsed_next c.loop-line.parsed.items c.parse_line.new.parsed.items _ c.loop-line.heading c.heading_after-heading.result c.line_kind_of-line_kind.result
    (words c.in-Some.line.now) (lines c.loop-line.rest.now) (lines c.in-Some.after.now)
    (first_line c.loop-line.rest.now c.in-Some.line.now c.in-Some.after.now c.in-Some.ensures.0) c.line_kind_of-line_kind.ensures
    c.in_ok-parse_line.ensures c.heading_after-heading.ensures c.loop-line.invariant

pub returns : goal.returns
returns g c =
    parsed_last c.loop-line.parsed.items c.parse_line-2.new.parsed.items _ c.loop-line.heading c.line_kind_of.result (words c.loop-line.rest.now)
    (lines c.loop-line.rest.now) (last_line c.loop-line.rest.now c.loop-line.rest.now c.in_default.ensures) c.line_kind_of.ensures
    c.in_ok-parse_line-2.ensures c.loop-line.invariant
