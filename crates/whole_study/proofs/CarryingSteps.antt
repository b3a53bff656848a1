-- The steps of a loop over lines: some are carried out, others are left.
use Rattle.std.proofs.Common.{◌≡◌, ◌∙◌, sym, ap, subst, refl, ℕ, Bool, true, false, List, [], ◌∷◌, ◌++◌, append_assoc, append-nil, length, get_or, drop, suc, add-one, ◌+◌, ◌<◌, ◌≤◌, Some, arith}
use Rattle.std.specs.Prelude.{◌||◌, All}
use Rattle.std.proofs.Math.Seq.{drop-cons}
use Rattle.std.specs.Io.KnownBytes.{Appends}
use Rattle.host_io.specs.WholeText.{AppendsPrefix}
use Rattle.study_answers.specs.Answers.{AnswerValue}
use Rattle.study_session.specs.Studies.{Study}
use Rattle.study_session.specs.Lines.{IsAnswerTo, after_line}
use Rattle.whole_study.specs.Lines.{Line, study_lines}
use Rattle.whole_study.specs.Run.{Answered, AreAnswered, error_line, is_accepted, reply_of, study_after, summary_of, was_accepted}
use Rattle.whole_study.specs.steps.Carrying.{CarriesOut, IsStopBy, WritesPart, Written}
use Rattle.whole_study.specs.steps.Counting.{AreCounts}
use Rattle.whole_study.specs.steps.Texts.{HasFewBytes, lines_in, named_text}
use Rattle.whole_study.specs.declared.inputs.StudyText.{StudyText}
use Rattle.whole_study.specs.declared.summary.Summary.{Summary}
use Rattle.whole_study.proofs.CarriedLines.{and_true, carried_both, carried_none, carried_stop, part_both, part_more, stop_either}

-- ---- the course of a loop

-- of all lines the first are carried out, the run goes on, and these are left
pub record Course (keep_going : Bool) (s : Study) (all : List Line) (old : Written) (before : Summary) (now : Study) (new : Written) (counted : Summary)
    (left : List Line) : Type 0 where
  pub front : List Line
  pub split : all ≡ front ++ left
  pub carried : CarriesOut keep_going s front old before true now new counted

pub course_none : (keep_going : Bool) (s : Study) (all : List Line) (old : Written) (before : Summary) → Course keep_going s all old before s old before all
course_none keep_going s all old before = record { front = []; split = refl; carried = carried_none keep_going s old before }

module _ (keep_going : Bool) (s : Study) (all : List Line) (old : Written) (before : Summary) (now : Study) (new : Written) (counted : Summary)
    (left part more : List Line) (course : Course keep_going s all old before now new counted left) (turn : left ≡ part ++ more) where
  whole_split : all ≡ (course.front ++ part) ++ more
  whole_split = course.split ∙ ap (λ (l : List Line). course.front ++ l) turn ∙ sym (append_assoc course.front part more)

  -- some more are carried out
  pub course_more : (next : Study) (then_written : Written) (then_counted : Summary)
      → CarriesOut keep_going now part new counted true next then_written then_counted
      → Course keep_going s all old before next then_written then_counted more
  course_more next then_written then_counted two = record {
    front = course.front ++ part;
    split = whole_split;
    carried = carried_both keep_going s course.front part old before now new counted true next then_written then_counted course.carried two;
  }

  -- the run stops in them
  pub course_stop : (next : Study) (then_written : Written) (then_counted : Summary)
      → CarriesOut keep_going now part new counted false next then_written then_counted
      → CarriesOut keep_going s all old before false next then_written then_counted
  course_stop next then_written then_counted two =
      subst (λ (l : List Line). CarriesOut keep_going s l old before false next then_written then_counted) (sym whole_split)
      (carried_stop keep_going s (course.front ++ part) more old before next then_written then_counted
      (carried_both keep_going s course.front part old before now new counted false next then_written then_counted course.carried two))

  -- a part of what they are answered is written
  pub course_part : (then_written : Written) → WritesPart keep_going now part new then_written → WritesPart keep_going s all old then_written
  course_part then_written two =
      subst (λ (l : List Line). WritesPart keep_going s l old then_written) (sym whole_split)
      (part_more keep_going s (course.front ++ part) more old then_written
      (part_both keep_going s course.front part old before now new counted then_written course.carried two))

-- the last lines are carried out
pub course_last : (keep_going : Bool) (s : Study) (all : List Line) (old : Written) (before : Summary) (now : Study) (new : Written) (counted : Summary)
    (left part : List Line) (on : Bool) (next : Study) (then_written : Written) (then_counted : Summary)
    → Course keep_going s all old before now new counted left → left ≡ part
    → CarriesOut keep_going now part new counted on next then_written then_counted
    → CarriesOut keep_going s all old before on next then_written then_counted
course_last keep_going s all old before now new counted left part on next then_written then_counted course turn two =
    subst (λ (l : List Line). CarriesOut keep_going s l old before on next then_written then_counted)
    (sym (course.split ∙ ap (λ (l : List Line). course.front ++ l) turn))
    (carried_both keep_going s course.front part old before now new counted on next then_written then_counted course.carried two)

-- ---- one line

one_stop : (keep_going accepted on : Bool) (given : Answered) → is_accepted given ≡ accepted → on ≡ (keep_going || accepted)
    → IsStopBy keep_going on [] (given ∷ [])
one_stop true accepted true given e o = (refl, refl)
one_stop true accepted false given e o = absurd cc
one_stop false true true given e o = (refl, and_true (is_accepted given) true e refl)
one_stop false true false given e o = absurd cc
one_stop false false true given e o = absurd cc
one_stop false false false given e o = (refl, record { front = []; last = given; split = refl; before = refl; stops = e })

-- a line with an answer
pub one_answer : (keep_going : Bool) (s : Study) (line : Line) (answer : AnswerValue) (old : Written) (before : Summary) (on : Bool) (after : Study)
    (new : Written) (counted : Summary) → IsAnswerTo s line.text (Some answer) → after ≡ after_line s line.text
    → on ≡ (keep_going || was_accepted answer.outcome) → Appends old.replies new.replies (reply_of (record { line = line; answer = answer; format = s.format }))
    → Appends old.errors new.errors (error_line (record { line = line; answer = answer; format = s.format }))
    → ((done : List Answered) → before ≡ summary_of done → counted ≡ summary_of (done ++ record { line = line; answer = answer; format = s.format } ∷ []))
    → CarriesOut keep_going s (line ∷ []) old before on after new counted
unfolding AreAnswered study_after
one_answer keep_going s line answer old before on after new counted is same goes replies errors summary =
    let given : Answered = record { line = line; answer = answer; format = s.format } in
    record {
      front = line ∷ [];
      left = [];
      split = refl;
      given = given ∷ [];
      answered = (Some answer, ([], (is, (refl, refl))));
      stop = one_stop keep_going (was_accepted answer.outcome) on given refl goes;
      study = same;
      replies = subst (Appends old.replies new.replies) (sym (append-nil (reply_of given))) replies;
      errors = subst (Appends old.errors new.errors) (sym (append-nil (error_line given))) errors;
      summary = summary;
    }

-- a part of its answer is written
pub one_part : (keep_going : Bool) (s : Study) (line : Line) (answer : AnswerValue) (old new : Written) → IsAnswerTo s line.text (Some answer)
    → AppendsPrefix old.replies new.replies (reply_of (record { line = line; answer = answer; format = s.format }))
    → AppendsPrefix old.errors new.errors (error_line (record { line = line; answer = answer; format = s.format }))
    → WritesPart keep_going s (line ∷ []) old new
unfolding AreAnswered study_after
one_part keep_going s line answer old new is replies errors =
    let given : Answered = record { line = line; answer = answer; format = s.format } in
    record {
      given = given ∷ [];
      gives = record {
        front = line ∷ [];
        left = [];
        split = refl;
        answered = (Some answer, ([], (is, (refl, refl))));
        stop = stop_either keep_going (keep_going || was_accepted answer.outcome) [] (given ∷ [])
            (one_stop keep_going (was_accepted answer.outcome) (keep_going || was_accepted answer.outcome) given refl refl);
      };
      replies = subst (AppendsPrefix old.replies new.replies) (sym (append-nil (reply_of given))) replies;
      errors = subst (AppendsPrefix old.errors new.errors) (sym (append-nil (error_line given))) errors;
    }

-- ---- studies

pub next_study : {A : Type 0} (studies : List (StudyText A)) (i : ℕ) (x : StudyText A) → i < length studies → x ≡ get_or studies i x
    → lines_in (drop i studies) ≡ study_lines (named_text x) ++ lines_in (drop (i + 1) studies)
next_study studies i x within is =
    ap lines_in (drop-cons studies i x within ∙ ap (λ (y : StudyText _). y ∷ drop (suc i) studies) (sym is))
    ∙ ap (λ (n : ℕ). study_lines (named_text x) ++ lines_in (drop n studies)) (sym (add-one i))

pub few_at : {A : Type 0} (studies : List (StudyText A)) (i : ℕ) (x : StudyText A) → i < length studies → x ≡ get_or studies i x
    → All HasFewBytes studies → length x.text.items ≤ 1048576
few_at studies i x within is all = subst (λ (y : StudyText _). HasFewBytes y) (sym is) (all i x within)

pub counts_none : (summary : Summary) → summary ≡ summary_of [] → AreCounts summary
counts_none summary e =
    subst AreCounts (sym e) (record { refused = omega arith; expectations = omega arith; failed = omega arith })
