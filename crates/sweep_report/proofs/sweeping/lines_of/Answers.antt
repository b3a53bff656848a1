use Rattle.std.proofs.Common.{List, refl, subst}
use Rattle.std.proofs.lemmas.List.{take_all}
use Rattle.lsdb.specs.Slots.{lists_of}
use Rattle.edit_script.specs.declared.edit.Edit.{Edit}
use Rattle.sweep_report.specs.Sweeps.{AreLines}
use Rattle.sweep_report.proofs.Joined.{one_more}
use Rattle.sweep_report.proofs.sweeping.lines_of.Goals as goal

pub loop-edit-preserved : goal.loop-edit-preserved
loop-edit-preserved g c = record {
  same = c.in_ok-outcome.ensures.again;
  lines = one_more (lists_of c.args.database.now) c.args.edits.now c.loop-edit.edit-index c.edit-item.result _ c.loop-edit.lines.items _
      c.loop-edit-test.true c.edit-item.is c.loop-edit.invariant.lines (record { same = refl; outcome = c.in_ok-outcome.ensures.outcome }) c.in_ok-push.ensures.items;
}

pub returns : goal.returns
returns g c =
    subst (λ (edits : List Edit). AreLines (lists_of c.args.database.now) edits c.loop-edit.lines.items)
    (take_all c.loop-edit.edit-index c.args.edits.now c.loop-edit-test.false) c.loop-edit.invariant.lines
