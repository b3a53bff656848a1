use Rattle.std.proofs.Common.{◌≡◌, Err, ap, arith, rules}
use Rattle.std.proofs.KnownBytes.{Keeps-refl}
use Rattle.study_session.specs.Studies.{study_of}
use Rattle.whole_study.specs.Typed.{known}
use Rattle.whole_study.specs.declared.summary.Summary.{Summary}
use Rattle.whole_study.proofs.CarryingSteps.{counts_none}
use Rattle.whole_study.proofs.NextLines.{within_end}
use Rattle.whole_study.proofs.TypedEnds.{failed_same, on_fault}
use Rattle.whole_study.proofs.TypedLines.{ask_fails, asked_by, carrying_fails, dialog_last, dialog_more, dialog_none}
use Rattle.whole_study.proofs.dialog.carry_out_typed.Goals as goal

pub lines-init : goal.lines-init
lines-init g c = record {
  terminal_open = c.requires.terminal_open;
  output_open = c.requires.output_open;
  number = omega arith;
  room = omega (arith, ap (λ (s : Summary). s.lines) c.requires.new);
  counts = counts_none c.args.summary.now c.requires.new;
  course = dialog_none _ _ _;
}

pub returns-in_err-typed-clause-broken : goal.returns-in_err-typed-clause-broken
returns-in_err-typed-clause-broken g c =
    let same : c.from_residual.result ≡ Err c.in_err-typed.field-0.0 = search rules in
    let show = known g.I.Read.remaining g.P.Write.contents g.W.Write.contents g.E.Write.contents in
    on_fault c.from_residual.result c.in_err-typed.field-0.0 _ same
    (ask_fails (study_of c.args.session.now) _ c.args.summary.now c.lines.limit c.lines.number (study_of c.lines.session)
    (show c.lines.terminal c.lines.output) c.lines.summary c.lines.invariant.course
    (show c.ask.new.terminal (record c.lines.output { replies = c.ask.new.replies })) c.in_err-typed.field-0.0 c.in_err-typed.ensures.begun
    c.ask.ensures.prompt_part (λ is. c.in_err-typed.ensures.prompt_read (failed_same _ _ _ is)) c.ask.ensures.replies (Keeps-refl _))

pub returns-in_err-carry_out_line-clause-broken : goal.returns-in_err-carry_out_line-clause-broken
returns-in_err-carry_out_line-clause-broken g c =
    let same : c.from_residual-in_err-carry_out_line.result ≡ Err c.in_err-carry_out_line.field-0.0 = search rules in
    let show = known g.I.Read.remaining g.P.Write.contents g.W.Write.contents g.E.Write.contents in
    let mid = show c.lines.terminal c.lines.output in
    let asked = show c.ask.new.terminal (record c.lines.output { replies = c.ask.new.replies }) in
    on_fault c.from_residual-in_err-carry_out_line.result c.in_err-carry_out_line.field-0.0 _ same
    (carrying_fails (study_of c.args.session.now) _ c.args.summary.now c.lines.limit c.lines.number (study_of c.lines.session) mid c.lines.summary
    c.lines.invariant.course asked c.in_ok-typed.typed.is_last c.in_ok-typed.typed.text.items
    (asked_by mid asked c.in_ok-typed.typed c.in_ok-typed.ensures.line c.in_ok-typed.ensures.prompt c.ask.ensures.replies (Keeps-refl _)) _ _
    c.in_err-carry_out_line.field-0.0 c.in_err-carry_out_line.ensures.ended (rw c.as_slice-text.ensures.value at c.carry_out_line.ensures.part))

pub returns-then-typed-clause-done : goal.returns-then-typed-clause-done
returns-then-typed-clause-done g c =
    let show = known g.I.Read.remaining g.P.Write.contents g.W.Write.contents g.E.Write.contents in
    let mid = show c.lines.terminal c.lines.output in
    let asked = show c.ask.new.terminal (record c.lines.output { replies = c.ask.new.replies }) in
    dialog_last (study_of c.args.session.now) _ c.args.summary.now c.lines.limit c.lines.number (study_of c.lines.session) mid c.lines.summary
    c.lines.invariant.course asked c.in_ok-typed.typed.is_last c.in_ok-typed.typed.text.items
    (asked_by mid asked c.in_ok-typed.typed c.in_ok-typed.ensures.line c.in_ok-typed.ensures.prompt c.ask.ensures.replies (Keeps-refl _)) _ _ _ _ _
    c.if-typed.true (c.in_ok-typed.ensures.line.end c.if-typed.true) c.in_ok-typed.ensures.within
    (rw c.as_slice-text.ensures.value at c.in_ok-carry_out_line.ensures.carried)

pub overflow_sub-limit : goal.overflow_sub-limit
overflow_sub-limit g c =
    omega (
      arith,
      within_end c.in_ok-typed.typed.is_last c.lines.limit c.in_ok-typed.typed.text.items c.if-typed.false c.in_ok-typed.ensures.within,
      c.in_ok-typed.typed.text.ok,
    )

pub lines-preserved : goal.lines-preserved
lines-preserved g c =
    let fits = within_end c.in_ok-typed.typed.is_last c.lines.limit c.in_ok-typed.typed.text.items c.if-typed.false c.in_ok-typed.ensures.within in
    let long = c.in_ok-typed.typed.text.ok in
    let show = known g.I.Read.remaining g.P.Write.contents g.W.Write.contents g.E.Write.contents in
    let mid = show c.lines.terminal c.lines.output in
    let asked = show c.ask.new.terminal (record c.lines.output { replies = c.ask.new.replies }) in
    record {
      terminal_open = c.in_ok-typed.ensures.open;
      output_open = search rules;
      number = omega (arith, fits, long, c.lines.invariant.number);
      room = omega (arith, fits, long, c.lines.invariant.room, c.in_ok-carry_out_line.ensures.grows.lines);
      counts = c.in_ok-carry_out_line.ensures.grows.counts;
      course = dialog_more (study_of c.args.session.now) _ c.args.summary.now c.lines.limit c.lines.number (study_of c.lines.session) mid c.lines.summary
          c.lines.invariant.course asked c.in_ok-typed.typed.is_last c.in_ok-typed.typed.text.items
          (asked_by mid asked c.in_ok-typed.typed c.in_ok-typed.ensures.line c.in_ok-typed.ensures.prompt c.ask.ensures.replies (Keeps-refl _)) _ _ _ _ _ _
          c.if-typed.false (omega (arith, fits, long)) (rw c.as_slice-text.ensures.value at c.in_ok-carry_out_line.ensures.carried);
    }

pub lines-smaller : goal.lines-smaller
lines-smaller g c =
    let fits = within_end c.in_ok-typed.typed.is_last c.lines.limit c.in_ok-typed.typed.text.items c.if-typed.false c.in_ok-typed.ensures.within in
    let long = c.in_ok-typed.typed.text.ok in
    omega (arith, fits, long)
