use Rattle.std.proofs.Common.{◌≡◌, ◌+◌, ◌≤◌, ◌==◌, false, length}
use Rattle.std.specs.List.{slice_split}
use Rattle.study_session.specs.Studies.{study_of}
use Rattle.whole_study.specs.Lines.{numbered, study_lines}
use Rattle.whole_study.specs.Streams.{has_writer_failed}
use Rattle.whole_study.specs.steps.Carrying.{written}
use Rattle.whole_study.specs.steps.Counting.{AreCounts}
use Rattle.whole_study.specs.steps.Texts.{named_text}
use Rattle.whole_study.proofs.CarryingSteps.{Course}
use Rattle.whole_study.proofs.carrying.carry_out_study.Given as goal

abbrev pub invariant-lines : goal.invariant-lines
invariant-lines g l = record {
  still_open : has_writer_failed l.output ≡ false;
  number : l.number + length l.rest ≤ 1 + length l.study.text.items;
  room : l.summary.lines + length l.rest ≤ l.initial.summary.lines + length l.study.text.items;
  counts : AreCounts l.summary;
  course : Course l.keep_going (study_of l.initial.session) (study_lines (named_text l.study))
      (written g.W.Write.contents g.E.Write.contents l.initial.output) l.initial.summary (study_of l.session)
      (written g.W.Write.contents g.E.Write.contents l.output) l.summary (numbered l.study.name.now l.number (slice_split (λ b. b == 10) l.rest));
}

abbrev pub decreases-lines : goal.decreases-lines
decreases-lines g l = length l.rest
