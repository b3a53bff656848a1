use Rattle.std.proofs.Common.{◌≡◌, ◌+◌, false, length}
use Rattle.host_io.specs.Watched.{inner_of, has_failed}
use Rattle.branches.specs.Branches.{sessions_of}
use Rattle.whole_run.specs.Run.{lines_of, answers}
use Rattle.whole_run.specs.steps.Lines.{lines_left}
use Rattle.whole_run.specs.WholeRun.{refused_count}
use Rattle.whole_run.proofs.ScriptLines.{turns_left, Written}
use Rattle.whole_run.proofs.script.answer_script.Given as goal

abbrev pub invariant-lines : goal.invariant-lines
invariant-lines g l = record {
  still_open : has_failed l.replies ≡ false;
  written : Written (g.W.Write.contents (inner_of l.initial.replies)) (g.W.Write.contents (inner_of l.replies))
      (sessions_of l.initial.branches) (lines_of l.script) (sessions_of l.branches) (lines_left l.rest);
  commands : l.summary.commands + length (answers (sessions_of l.branches) (lines_left l.rest)) ≡ length
      (answers (sessions_of l.initial.branches) (lines_of l.script));
  refused : l.summary.refused + refused_count (answers (sessions_of l.branches) (lines_left l.rest)) ≡ refused_count
      (answers (sessions_of l.initial.branches) (lines_of l.script));
}

abbrev pub decreases-lines : goal.decreases-lines
decreases-lines g l = turns_left l.rest
