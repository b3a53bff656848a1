use Rattle.std.proofs.Common.{◌∙◌, arith}
use Rattle.std.proofs.lemmas.Result.{err_from_is_err_and}
use Rattle.saved_sessions.specs.Opening.{position_after}
use Rattle.saved_sessions.proofs.Lines.{lines_go_on, lines_end, lines_done}
use Rattle.saved_sessions.proofs.history.carry_out_lines.Goals as goal

pub returns-in_err-end-clause-read : goal.returns-in_err-end-clause-read
returns-in_err-end-clause-read g c =
    let p = err_from_is_err_and c.from_residual.result c.from_residual.ensures.1 in
    rw (p.1, p.2) (record {
      session = lines_end c.in_err-end.field-0.0 c.args.count c.loop-line.line c.loop-line.planner.session
          (position_after c.loop-line.end c.args.bytes.now) _ c.loop-line-test.true c.in_err-end.ensures.read.session c.loop-line.invariant.reading;
      within = tt;
      runs = c.carry_out_line.ensures.read.runs ∙ c.loop-line.invariant.runs;
      kept = λ none. c.carry_out_line.ensures.read.kept (c.loop-line.invariant.kept none);
    })

pub loop-line-preserved : goal.loop-line-preserved
loop-line-preserved g c = record {
  reading = lines_go_on c.args.count c.loop-line.line c.loop-line.planner.session c.carry_out_line.new.planner.session
      (position_after c.loop-line.end c.args.bytes.now) (position_after c.in_ok-end.end c.args.bytes.now) _ c.loop-line-test.true c.in_ok-end.ensures.read.session
      c.loop-line.invariant.reading;
  within = c.in_ok-end.ensures.read.within;
  done = omega (arith, c.in_ok-end.ensures.done, c.loop-line.invariant.done);
  runs = c.carry_out_line.ensures.read.runs ∙ c.loop-line.invariant.runs;
  kept = λ none. c.carry_out_line.ensures.read.kept (c.loop-line.invariant.kept none);
}

pub returns-clause-read : goal.returns-clause-read
returns-clause-read g c = record {
  session = lines_done c.args.count c.loop-line.line c.loop-line.planner.session (position_after c.loop-line.end c.args.bytes.now) _
      c.loop-line-test.false c.loop-line.invariant.reading;
  within = c.loop-line.invariant.within;
  runs = c.loop-line.invariant.runs;
  kept = c.loop-line.invariant.kept;
}
