use Rattle.frr_text.specs.Words.{words}
use Rattle.frr_text.proofs.Rows.{rows_next, rows_end}
use Rattle.frr_text.proofs.row.put_rows.Goals as goal

pub loop-word-preserved : goal.loop-word-preserved
loop-word-preserved g c =
    rows_next c.loop-word.parts.items c.put_row.new.parts.items _ (words c.loop-word.rest.now) c.in-Some._word.now (words c.in-Some.after.now)
    c.in_ok-put_row.ensures c.in-Some.ensures.0 c.loop-word.invariant

pub returns : goal.returns
returns g c = rows_end c.loop-word.parts.items _ (words c.loop-word.rest.now) c.in_default.ensures c.loop-word.invariant
