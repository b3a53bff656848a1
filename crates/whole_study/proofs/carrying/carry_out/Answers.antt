use Rattle.std.proofs.Common.{◌+◌, ap, arith, drop, rules}
use Rattle.whole_study.specs.steps.Texts.{lines_in}
use Rattle.whole_study.specs.declared.summary.Summary.{Summary}
use Rattle.whole_study.proofs.CarryingSteps.{counts_none, course_more, course_none, course_part, course_stop, few_at, next_study}
use Rattle.whole_study.proofs.carrying.carry_out.Goals as goal

pub studies-init : goal.studies-init
studies-init g c = record {
  still_open = c.requires.open;
  room = omega (arith, ap (λ (s : Summary). s.lines) c.requires.new);
  counts = counts_none c.args.summary.now c.requires.new;
  course = course_none c.args.keep_going _ _ _ _;
}

pub returns-in_err-carry_out_study-clause-part : goal.returns-in_err-carry_out_study-clause-part
returns-in_err-carry_out_study-clause-part g c =
    course_part c.args.keep_going _ _ _ _ _ _ _ (lines_in (drop c.studies.study-index c.args.studies.now)) _
    (lines_in (drop (c.studies.study-index + 1) c.args.studies.now)) c.studies.invariant.course
    (next_study c.args.studies.now c.studies.study-index c.study-item.result c.studies-test.true c.study-item.is) _ c.carry_out_study.ensures.part

pub returns-then-not-branch-clause-carried : goal.returns-then-not-branch-clause-carried
returns-then-not-branch-clause-carried g c =
    course_stop c.args.keep_going _ _ _ _ _ _ _ (lines_in (drop c.studies.study-index c.args.studies.now)) _
    (lines_in (drop (c.studies.study-index + 1) c.args.studies.now)) c.studies.invariant.course
    (next_study c.args.studies.now c.studies.study-index c.study-item.result c.studies-test.true c.study-item.is) _ _ _
    (rw c.if-not-branch.true at c.in_ok-carry_out_study.ensures.carried)

pub returns-then-not-branch-clause-part : goal.returns-then-not-branch-clause-part
returns-then-not-branch-clause-part g c =
    course_part c.args.keep_going _ _ _ _ _ _ _ (lines_in (drop c.studies.study-index c.args.studies.now)) _
    (lines_in (drop (c.studies.study-index + 1) c.args.studies.now)) c.studies.invariant.course
    (next_study c.args.studies.now c.studies.study-index c.study-item.result c.studies-test.true c.study-item.is) _ c.carry_out_study.ensures.part

pub studies-preserved : goal.studies-preserved
studies-preserved g c = record {
  still_open = search rules;
  room = omega (
    arith,
    c.studies.invariant.room,
    c.in_ok-carry_out_study.ensures.grows.lines,
    few_at c.args.studies.now c.studies.study-index c.study-item.result c.studies-test.true c.study-item.is c.requires.short,
  );
  counts = c.in_ok-carry_out_study.ensures.grows.counts;
  course = course_more c.args.keep_going _ _ _ _ _ _ _ (lines_in (drop c.studies.study-index c.args.studies.now)) _
      (lines_in (drop (c.studies.study-index + 1) c.args.studies.now)) c.studies.invariant.course
      (next_study c.args.studies.now c.studies.study-index c.study-item.result c.studies-test.true c.study-item.is) _ _ _
      (rw c.if-not-branch.false at c.in_ok-carry_out_study.ensures.carried);
}
