use Rattle.std.proofs.Common.{◌≡◌, ◌*◌, ◌≤◌, false, drop}
use Rattle.study_session.specs.Studies.{study_of}
use Rattle.whole_study.specs.Streams.{has_writer_failed}
use Rattle.whole_study.specs.steps.Carrying.{written}
use Rattle.whole_study.specs.steps.Counting.{AreCounts}
use Rattle.whole_study.specs.steps.Texts.{lines_in}
use Rattle.whole_study.proofs.CarryingSteps.{Course}
use Rattle.whole_study.proofs.carrying.carry_out.Given as goal

abbrev pub invariant-studies : goal.invariant-studies
invariant-studies g l = record {
  still_open : has_writer_failed l.output ≡ false;
  room : l.summary.lines ≤ 1048577 * l.study-index;
  counts : AreCounts l.summary;
  course : Course l.keep_going (study_of l.initial.session) (lines_in l.studies)
      (written g.W.Write.contents g.E.Write.contents l.initial.output) l.initial.summary (study_of l.session)
      (written g.W.Write.contents g.E.Write.contents l.output) l.summary (lines_in (drop l.study-index l.studies));
}
