use Rattle.std.proofs.Common.{ap, sym, ◌∙◌}
use Rattle.edit_script.specs.Spelling.{IsScriptedUnlessEvent}
use Rattle.edit_history.specs.Exchange.{RecordData}
use Rattle.saved_sessions.proofs.RecordEdits.{one_line_more, one_more}
use Rattle.saved_sessions.proofs.saving.put_lines.Goals as goal

pub loop-record-preserved : goal.loop-record-preserved
loop-record-preserved g c =
    let is = ap (λ (r : RecordData). r.edit) (sym c.record-item.is) ∙ sym c.edit.ensures in
    record {
      written =
          one_line_more c.args.records.now c.loop-record.record-index c.record-item.result c.edit.result c.loop-record-test.true is
          c.args.out.now.items c.loop-record.out.items c.put_line.new.out.items c.loop-record.invariant.written c.in_ok-put_line.ensures.written;
      range =
          one_more c.args.records.now c.loop-record.record-index c.record-item.result c.edit.result c.loop-record-test.true is
          IsScriptedUnlessEvent c.put_line.ensures.range c.loop-record.invariant.range;
    }
