use Rattle.std.proofs.Common.{◌+◌, ◌==◌, [], ℕ, List, ap, arith, length, rules}
use Rattle.std.proofs.lemmas.Result.{IfOk-weaker}
use Rattle.std.specs.List.{slice_split}
use Rattle.study_session.specs.Studies.{study_of}
use Rattle.whole_study.specs.Lines.{numbered, study_lines}
use Rattle.whole_study.specs.steps.Texts.{named_text}
use Rattle.whole_study.proofs.CarryingSteps.{course_last, course_more, course_none, course_part, course_stop}
use Rattle.whole_study.proofs.carrying.carry_out_study.Goals as goal

abbrev split : List ℕ → List (List ℕ)
split text = slice_split (λ b. b == 10) text

pub lines-init : goal.lines-init
lines-init g c = record {
  still_open = c.requires.open;
  number = omega (arith, ap length c.as_slice-rest.ensures.value);
  room = omega (arith, ap length c.as_slice-rest.ensures.value);
  counts = c.requires.room.counts;
  course = rw c.as_slice-rest.ensures.value
      (course_none c.args.keep_going (study_of c.args.session.now) (study_lines (named_text c.args.study.now)) _ c.args.summary.now);
}

pub returns-in_err-carry_out_line-clause-part : goal.returns-in_err-carry_out_line-clause-part
returns-in_err-carry_out_line-clause-part g c =
    course_part c.args.keep_going _ _ _ _ _ _ _ (numbered c.args.study.now.name.now c.lines.number (split c.lines.rest.now)) _
    (numbered c.args.study.now.name.now (c.lines.number + 1) (split c.in-Some.after.now)) c.lines.invariant.course
    (ap (numbered c.args.study.now.name.now c.lines.number) c.in-Some.ensures.0) _ c.carry_out_line.ensures.part

pub returns-then-not-branch-clause-carried : goal.returns-then-not-branch-clause-carried
returns-then-not-branch-clause-carried g c =
    course_stop c.args.keep_going _ _ _ _ _ _ _ (numbered c.args.study.now.name.now c.lines.number (split c.lines.rest.now)) _
    (numbered c.args.study.now.name.now (c.lines.number + 1) (split c.in-Some.after.now)) c.lines.invariant.course
    (ap (numbered c.args.study.now.name.now c.lines.number) c.in-Some.ensures.0) _ _ _
    (rw c.if-not-branch.true at c.in_ok-carry_out_line.ensures.carried)

pub returns-then-not-branch-clause-part : goal.returns-then-not-branch-clause-part
returns-then-not-branch-clause-part g c =
    course_part c.args.keep_going _ _ _ _ _ _ _ (numbered c.args.study.now.name.now c.lines.number (split c.lines.rest.now)) _
    (numbered c.args.study.now.name.now (c.lines.number + 1) (split c.in-Some.after.now)) c.lines.invariant.course
    (ap (numbered c.args.study.now.name.now c.lines.number) c.in-Some.ensures.0) _ c.carry_out_line.ensures.part

pub lines-preserved : goal.lines-preserved
lines-preserved g c = record {
  still_open = search rules;
  number = omega (arith, c.in-Some.ensures.1, c.lines.invariant.number);
  room = omega (arith, c.in-Some.ensures.1, c.lines.invariant.room, c.in_ok-carry_out_line.ensures.grows.lines);
  counts = c.in_ok-carry_out_line.ensures.grows.counts;
  course = course_more c.args.keep_going _ _ _ _ _ _ _ (numbered c.args.study.now.name.now c.lines.number (split c.lines.rest.now)) _
      (numbered c.args.study.now.name.now (c.lines.number + 1) (split c.in-Some.after.now)) c.lines.invariant.course
      (ap (numbered c.args.study.now.name.now c.lines.number) c.in-Some.ensures.0) _ _ _
      (rw c.if-not-branch.false at c.in_ok-carry_out_line.ensures.carried);
}

pub returns-clause-carried : goal.returns-clause-carried
returns-clause-carried g c =
    IfOk-weaker _ _ _
    (λ on two. course_last c.args.keep_going _ _ _ _ _ _ _ (numbered c.args.study.now.name.now c.lines.number (split c.lines.rest.now)) _ on _ _ _
    c.lines.invariant.course (ap (numbered c.args.study.now.name.now c.lines.number) c.in_default.ensures) two)
    c.carry_out_line-2.ensures.carried

pub returns-clause-part : goal.returns-clause-part
returns-clause-part g c =
    course_part c.args.keep_going _ _ _ _ _ _ _ (numbered c.args.study.now.name.now c.lines.number (split c.lines.rest.now)) _ [] c.lines.invariant.course
    (ap (numbered c.args.study.now.name.now c.lines.number) c.in_default.ensures) _ c.carry_out_line-2.ensures.part
