use Rattle.std.proofs.Common.{sym, ◌∙◌}
use Rattle.frr_text.specs.Words.{words}
use Rattle.lsdb_listing.specs.Headings.{titles}
use Rattle.lsdb_listing.proofs.Titles.{title_found, title_passed, title_missed}
use Rattle.lsdb_listing.proofs.heading.table_in.Goals as goal

pub returns-in-Some : goal.returns-in-Some
returns-in-Some c =
    sym (title_found titles c.loop-title.title-index _ (words c.args.line.now) c.in-Some.table c.loop-title-test.true (sym c.in-Some.ensures))
    ∙ c.loop-title.invariant

pub loop-title-preserved : goal.loop-title-preserved
loop-title-preserved c =
    sym (title_passed titles c.loop-title.title-index _ (words c.args.line.now) c.loop-title-test.true (sym c.in_default.ensures))
    ∙ c.loop-title.invariant

pub returns : goal.returns
returns c =
    sym (title_missed titles c.loop-title.title-index (words c.args.line.now) c.loop-title-test.false)
    ∙ c.loop-title.invariant
