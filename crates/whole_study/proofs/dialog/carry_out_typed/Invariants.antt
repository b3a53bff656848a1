use Rattle.std.proofs.Common.{◌≡◌, ◌+◌, ◌≤◌, false}
use Rattle.study_session.specs.Studies.{study_of}
use Rattle.whole_study.specs.Streams.{has_writer_failed}
use Rattle.whole_study.specs.Typed.{has_terminal_failed, known}
use Rattle.whole_study.specs.steps.Counting.{AreCounts}
use Rattle.whole_study.proofs.TypedLines.{Dialog}
use Rattle.whole_study.proofs.dialog.carry_out_typed.Given as goal

abbrev pub invariant-lines : goal.invariant-lines
invariant-lines g l = record {
  terminal_open : has_terminal_failed l.terminal ≡ false;
  output_open : has_writer_failed l.output ≡ false;
  number : l.number + l.limit ≤ 1048577;
  room : l.summary.lines + l.limit ≤ 1048576;
  counts : AreCounts l.summary;
  course : Dialog (study_of l.initial.session)
      (known g.I.Read.remaining g.P.Write.contents g.W.Write.contents g.E.Write.contents l.initial.terminal l.initial.output) l.initial.summary
      l.limit l.number (study_of l.session)
      (known g.I.Read.remaining g.P.Write.contents g.W.Write.contents g.E.Write.contents l.terminal l.output) l.summary;
}

abbrev pub decreases-lines : goal.decreases-lines
decreases-lines g l = l.limit
