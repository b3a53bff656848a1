use Rattle.std.proofs.Common.{[], ◌∷◌}
use Rattle.study_session.specs.Studies.{study_of}
use Rattle.whole_study.specs.steps.Carrying.{line_at}
use Rattle.whole_study.proofs.CarriedLines.{no_answer, part_none}
use Rattle.whole_study.proofs.CarryingSteps.{one_answer, one_part}
use Rattle.whole_study.proofs.carrying.carry_out_line.Goals as goal

pub returns-in_err-answer-clause-part : goal.returns-in_err-answer-clause-part
returns-in_err-answer-clause-part g c = part_none c.args.keep_going (study_of c.args.session.now) (line_at c.args.line ∷ []) _

pub returns-in_default-clause-carried : goal.returns-in_default-clause-carried
returns-in_default-clause-carried g c =
    no_answer c.args.keep_going (study_of c.args.session.now) (line_at c.args.line) _ c.args.summary.now _
    (rw c.in_default.is at c.in_ok-answer.ensures.answer) c.in_ok-answer.ensures.study

pub returns-in_default-clause-part : goal.returns-in_default-clause-part
returns-in_default-clause-part g c = part_none c.args.keep_going (study_of c.args.session.now) (line_at c.args.line ∷ []) _

pub returns-in_err-write_answer-clause-part : goal.returns-in_err-write_answer-clause-part
returns-in_err-write_answer-clause-part g c =
    one_part c.args.keep_going (study_of c.args.session.now) (line_at c.args.line) c.in-Some.answer _ _
    (rw c.in-Some.is at c.in_ok-answer.ensures.answer) (rw c.format-format.ensures at c.write_answer.ensures.replies_part) c.write_answer.ensures.errors_part

pub returns-clause-carried : goal.returns-clause-carried
returns-clause-carried g c =
    one_answer c.args.keep_going (study_of c.args.session.now) (line_at c.args.line) c.in-Some.answer _ c.args.summary.now _ _ _ _
    (rw c.in-Some.is at c.in_ok-answer.ensures.answer) c.in_ok-answer.ensures.study c.goes_on.ensures
    (rw c.format-format.ensures at c.in_ok-write_answer.ensures.replies) c.in_ok-write_answer.ensures.errors
    (λ done e. c.count.ensures.counted done (line_at c.args.line) (study_of c.args.session.now).format e)

pub returns-clause-part : goal.returns-clause-part
returns-clause-part g c =
    one_part c.args.keep_going (study_of c.args.session.now) (line_at c.args.line) c.in-Some.answer _ _
    (rw c.in-Some.is at c.in_ok-answer.ensures.answer) (rw c.format-format.ensures at c.write_answer.ensures.replies_part) c.write_answer.ensures.errors_part
