use Rattle.std.proofs.Common.{◌≡◌, ◌≤◌, Ok, take, length, sym, ap, ◌∙◌, arith, inr}
use Rattle.std.proofs.lemmas.Result.{err_from_is_err_and}
use Rattle.lsdb.specs.BaseText.{base_text}
use Rattle.lsdb.specs.Lists.{Lists}
use Rattle.edit_history.specs.Session.{Session}
use Rattle.saved_sessions.proofs.SessionTaken.{session_is}
use Rattle.saved_sessions.proofs.Trailing.{history_ends, trailing, whole}
use Rattle.saved_sessions.proofs.opening.read_session.Goals as goal

pub returns-clause-spelled : goal.returns-clause-spelled
returns-clause-spelled g c =
    let base : Lists = c.new-planner.result.session.base in
    let spelled : take c.in_ok-base.byte_count c.args.bytes.now ≡ base_text base =
    c.in_ok-base.ensures.spelled ∙ ap (λ (s : Session). base_text s.base) (sym c.new-planner.ensures.session) in
    let all : length c.args.bytes.now ≤ c.in_ok-end.end = omega (arith, c.if-end-bytes.false) in
    session_is c.line_laws.ensures.spelled c.args.bytes.now (λ i. omega (arith, c.type_inv.bytes i)) base c.in_ok-base.byte_count
    c.read_history.new.planner.session c.in_ok-end.end spelled c.in_ok-end.ensures.session all

-- a base that was read has no fault at its front

pub returns-clause-loads : goal.returns-clause-loads
returns-clause-loads g c = record {
  found = whole c.args.bytes.now (c.new-planner.result.session.base, c.in_ok-base.byte_count) c.read_history.new.planner.session c.in_ok-end.end
      (c.in_ok-base.ensures.found ∙ ap (λ (s : Session). Ok (s.base, c.in_ok-base.byte_count)) (sym c.new-planner.ensures.session))
      c.in_ok-end.ensures.session (omega (arith, c.if-end-bytes.false));
  fault = tt;
  front = λ fault is. let none = c.in_ok-base.ensures.front fault is in absurd cc;
  runs = c.read_history.ensures.runs ∙ c.new-planner.ensures.runs;
  kept = c.read_history.ensures.kept c.new-planner.ensures.kept;
}

pub returns-then-end-bytes-clause-loads : goal.returns-then-end-bytes-clause-loads
returns-then-end-bytes-clause-loads g c =
    let base : Lists = c.new-planner.result.session.base in
    record {
      found = tt;
      fault = inr
          (rw c.fault.ensures (trailing c.args.bytes.now (base, c.in_ok-base.byte_count) c.read_history.new.planner.session c.in_ok-end.end
          (c.in_ok-base.ensures.found ∙ ap (λ (s : Session). Ok (s.base, c.in_ok-base.byte_count)) (sym c.new-planner.ensures.session))
          c.in_ok-end.ensures.session c.if-end-bytes.true));
      front = λ fault is. let none = c.in_ok-base.ensures.front fault is in absurd cc;
      runs = tt;
      kept = tt;
    }

-- the fault is that of the edits
pub returns-in_err-end-clause-loads : goal.returns-in_err-end-clause-loads
returns-in_err-end-clause-loads g c =
    let base : Lists = c.new-planner.result.session.base in
    let gave = err_from_is_err_and c.from_residual-in_err-end.result c.from_residual-in_err-end.ensures.1 in
    rw (gave.1, gave.2) (record {
      found = tt;
      fault = history_ends c.in_err-end.field-0.0 c.args.bytes.now (base, c.in_ok-base.byte_count)
          (c.in_ok-base.ensures.found ∙ ap (λ (s : Session). Ok (s.base, c.in_ok-base.byte_count)) (sym c.new-planner.ensures.session))
          c.in_err-end.ensures.session;
      front = λ fault is. let none = c.in_ok-base.ensures.front fault is in absurd cc;
      runs = tt;
      kept = tt;
    })
