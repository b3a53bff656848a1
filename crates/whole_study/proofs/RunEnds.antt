-- How a run ends, by what was carried out.
use Rattle.std.proofs.Common.{◌≡◌, ◌∙◌, sym, ap, subst, refl, ℕ, ◌+◌, ◌<◌, ◌≤◌, eqb, zero-add, Bool, true, false, cond, List, [], ◌∷◌, ◌++◌, append-nil, length, map, Option, None, Some, Result, Ok, Err, inl, inr, arith}
use Rattle.std.specs.Prelude.{◌⊎◌, ◌&&◌, ◌||◌, All, IfErr, IfOk, IfSome, OnOk, Vec, count_by, nat_lt, unwrap_or, vec_len}
use Rattle.std.proofs.lemmas.Result.{IfErr-weaker, IfOk-weaker}
use Rattle.std.specs.List.{list_all}
use Rattle.std.specs.Io.KnownBytes.{Appends}
use Rattle.std.proofs.KnownBytes.{Appends-trans}
use Rattle.std.proofs.lemmas.Bool.{ltb-true, ne_eqb}
use Rattle.std.proofs.lemmas.List.{length-map}
use Rattle.std.proofs.lemmas.List.Sums.{sum_by-cons}
use Rattle.std.proofs.lemmas.List.Folds.{list_all-append}
use Rattle.host_io.specs.WholeText.{AppendsPrefix}
use Rattle.study_answers.specs.declared.answer.Outcome.{Outcome}
use Rattle.study_answers.specs.declared.answer.Outcome.TheVariants.{Accepted, Refused, Failed}
use Rattle.study_session.specs.Studies.{Study}
use Rattle.whole_study.specs.Begin.{AreAccepted, Begins}
use Rattle.whole_study.specs.Calls.{Ends, FitsInputs, HasLonger, IsBeforeReplies, IsTooMuch, MayEndRun, WritesPrefix, most, of_all}
use Rattle.whole_study.specs.Given.{Given}
use Rattle.whole_study.specs.Lines.{Line, all_lines}
use Rattle.whole_study.specs.Run.{Answered, AreAnswered, Gives, IsStop, StopsAtLast, dump_left, dump_of, errors_of, has_passed, is_accepted, replies_of, study_after, summary_in, summary_of, was_accepted, was_failed, was_refused, whole_replies}
use Rattle.whole_study.specs.steps.Carrying.{CarriesOut, IsStopBy, Written}
use Rattle.whole_study.specs.steps.Endings.{MayEndWriting}
use Rattle.whole_study.specs.steps.Texts.{HasFewBytes, bytes_in, given_in, named_text}
use Rattle.whole_study.specs.declared.fault.RunFault.{RunFault}
use Rattle.whole_study.specs.declared.fault.RunFault.TheVariants.{Dump, Baseline, Names, Read, Write, TooLarge, OutOfMemory}
use Rattle.whole_study.specs.declared.inputs.StudyText.{StudyText}
use Rattle.whole_study.specs.declared.inputs.Texts.{Texts}
use Rattle.whole_study.specs.declared.running.Ended.{Ended}
use Rattle.whole_study.specs.declared.running.Manner.{Manner}
use Rattle.whole_study.specs.declared.summary.Summary.{Summary}
use Rattle.whole_study.proofs.Begun.{accepted_of}
use Rattle.whole_study.proofs.CarriedLines.{prefix_both, prefix_whole}
use Rattle.whole_study.proofs.ReadInputs.{all_head, all_tail}

-- ---- the verdict

passed_by : (o : Outcome) (r f : ℕ) (all : Bool) → (eqb r 0 && eqb f 0) ≡ all
    → (eqb (cond (was_refused o) 1 0 + r) 0 && eqb (cond (was_failed o) 1 0 + f) 0) ≡ (was_accepted o && all)
passed_by Accepted r f all e = ap (λ (n : ℕ). eqb n 0 && eqb (0 + f) 0) (zero-add r) ∙ ap (λ (n : ℕ). eqb r 0 && eqb n 0) (zero-add f) ∙ e
passed_by Refused r f all e = ap (λ (b : Bool). b && eqb (0 + f) 0) (ne_eqb (1 + r) 0 (λ h. omega (arith, h)))
passed_by Failed r f all e = no_second (eqb (0 + r) 0) (eqb (1 + f) 0) (ne_eqb (1 + f) 0 (λ h. omega (arith, h)))
  where
    no_second : (a b : Bool) → b ≡ false → (a && b) ≡ false
    no_second true b e = e
    no_second false b e = refl

-- a run has passed where all answers are accepted
pub passed_all : (given : List Answered) → has_passed (summary_of given) ≡ list_all is_accepted given
passed_all [] = refl
passed_all (x ∷ xs) =
    let refused : Answered → Bool = λ a. was_refused a.answer.outcome in
    let failed : Answered → Bool = λ a. was_failed a.answer.outcome in
    ap (λ (n : ℕ). eqb n 0 && eqb (count_by failed (x ∷ xs)) 0) (sum_by-cons (λ (a : Answered). cond (refused a) 1 0) x xs)
    ∙ ap (λ (n : ℕ). eqb (cond (refused x) 1 0 + count_by refused xs) 0 && eqb n 0) (sum_by-cons (λ (a : Answered). cond (failed a) 1 0) x xs)
    ∙ passed_by x.answer.outcome (count_by refused xs) (count_by failed xs) (list_all is_accepted xs) (passed_all xs)

stopped_fails : (given : List Answered) → StopsAtLast given → list_all is_accepted given ≡ true → ⊥
stopped_fails given stop e =
    let last : (list_all is_accepted stop.front && (is_accepted stop.last && true)) ≡ true =
    sym (list_all-append is_accepted stop.front (stop.last ∷ [])) ∙ ap (list_all is_accepted) (sym stop.split) ∙ e in
    both (list_all is_accepted stop.front) (is_accepted stop.last) stop.stops last
  where
    both : (a b : Bool) → b ≡ false → (a && (b && true)) ≡ true → ⊥
    both true true e f = absurd cc
    both true false e f = absurd cc
    both false b e f = absurd cc

-- ---- what a run gives

stop_of : (keep_going on : Bool) (left : List Line) (given : List Answered) → IsStopBy keep_going on left given → IsStop keep_going left given
stop_of keep_going true left given stop = inl stop
stop_of keep_going false left given stop = inr stop

none_left : (keep_going : Bool) (left : List Line) (given : List Answered) → IsStop keep_going left given → list_all is_accepted given ≡ true → left ≡ []
none_left keep_going left given (inl stop) e = stop.0
none_left keep_going left given (inr stop) e = absurd (stopped_fails given stop.1 e)

module _ (keep_going : Bool) (s : Study) (lines : List Line) (old : Written) (before : Summary) (on : Bool) (after : Study) (new : Written) (counted : Summary)
    (one : CarriesOut keep_going s lines old before on after new counted) where
  pub gives_of : Gives keep_going s lines one.given
  gives_of = record {
    front = one.front;
    left = one.left;
    split = one.split;
    answered = one.answered;
    stop = stop_of keep_going on one.left one.given one.stop;
  }

  pub counted_is : before ≡ summary_of [] → counted ≡ summary_of one.given
  counted_is e = one.summary [] e

  all_in : list_all is_accepted one.given ≡ true → lines ≡ one.front
  all_in e =
      one.split
      ∙ ap (λ (l : List Line). one.front ++ l) (none_left keep_going one.left one.given (stop_of keep_going on one.left one.given one.stop) e)
      ∙ append-nil one.front

  pub complete_of : list_all is_accepted one.given ≡ true → AreAnswered s lines one.given
  complete_of e = subst (λ (l : List Line). AreAnswered s l one.given) (sym (all_in e)) one.answered

  dump_by : (wants all : Bool) (dump : Option (List ℕ)) → list_all is_accepted one.given ≡ all
      → dump ≡ cond (wants && all) (Some (dump_of after)) None → dump ≡ cond (wants && all) (Some (dump_of (study_after s lines))) None
  dump_by true true dump e is = is ∙ ap (λ (t : Study). let d : Option (List ℕ) = Some (dump_of t) in d)
      (one.study ∙ ap (study_after s) (sym (all_in e)))
  dump_by true false dump e is = is
  dump_by false all dump e is = is

  pub dump_is : (wants : Bool) (dump : Option (List ℕ)) → dump ≡ cond (wants && list_all is_accepted one.given) (Some (dump_of after)) None
      → dump ≡ dump_left wants s lines one.given
  dump_is wants dump is = dump_by wants (list_all is_accepted one.given) dump refl is

  pub passed_is : before ≡ summary_of [] → has_passed counted ≡ list_all is_accepted one.given
  passed_is e = ap has_passed (counted_is e) ∙ passed_all one.given

  pub dump_end : before ≡ summary_of [] → (wants : Bool) (dump : Option (List ℕ))
      → dump ≡ cond (wants && has_passed counted) (Some (dump_of after)) None → dump ≡ dump_left wants s lines one.given
  dump_end e wants dump is =
      dump_is wants dump (subst (λ (b : Bool). dump ≡ cond (wants && b) (Some (dump_of after)) None) (passed_is e) is)

  -- the replies and the summary are written
  pub replies_of_all : before ≡ summary_of [] → (end : Option (List ℕ)) → Appends new.replies end (summary_in s.format counted)
      → Appends old.replies end (whole_replies s.format one.given)
  replies_of_all e end last =
      Appends-trans old.replies new.replies end (replies_of one.given) (summary_in s.format (summary_of one.given)) one.replies
      (subst (λ (c : Summary). Appends new.replies end (summary_in s.format c)) (counted_is e) last)

  -- the replies, and a part of the summary
  pub replies_part : before ≡ summary_of [] → (end : Option (List ℕ)) → AppendsPrefix new.replies end (summary_in s.format counted)
      → AppendsPrefix old.replies end (whole_replies s.format one.given)
  replies_part e end last =
      prefix_both old.replies new.replies end (whole_replies s.format one.given) (replies_of one.given) (summary_in s.format (summary_of one.given)) refl one.replies
      (subst (λ (c : Summary). AppendsPrefix new.replies end (summary_in s.format c)) (counted_is e) last)

  pub prefix_after : before ≡ summary_of [] → (end errors : Option (List ℕ)) → AppendsPrefix new.replies end (summary_in s.format counted)
      → errors ≡ new.errors → WritesPrefix keep_going s lines old.replies end old.errors errors
  prefix_after e end errors last same = record {
    given = one.given;
    replies = of_all gives_of (replies_part e end last);
    errors = subst (λ (x : Option (List ℕ)). AppendsPrefix old.errors x (errors_of one.given)) (sym same)
        (prefix_whole old.errors new.errors (errors_of one.given) one.errors);
  }

-- how a run ends that was carried out, and wrote its summary
pub ends_by : {A : Type 0} (manner : Manner) (s : Study) (lines : List Line) (old : Written) (before : Summary) (on : Bool) (after : Study) (new : Written)
    (counted : Summary) → CarriesOut manner.keep_going s lines old before on after new counted → before ≡ summary_of [] → (end errors : Option (List ℕ))
    → errors ≡ new.errors → (result : Result (Ended A) (RunFault A)) → OnOk result (Appends new.replies end (summary_in s.format counted))
    → IfOk result (λ ended. (ended.summary ≡ counted)
    × (bytes_in ended.dump ≡ cond (manner.wants_dump && has_passed counted) (Some (dump_of after)) None))
    → IfOk result (Ends manner s lines old.replies end old.errors errors)
ends_by manner s lines old before on after new counted one none end errors same (Ok ended) last (is, dump) =
    let passed : has_passed ended.summary ≡ list_all is_accepted one.given =
    ap has_passed is ∙ passed_is manner.keep_going s lines old before on after new counted one none in
    record {
      given = one.given;
      gives = gives_of manner.keep_going s lines old before on after new counted one;
      replies = replies_of_all manner.keep_going s lines old before on after new counted one none end last;
      errors = subst (λ (x : Option (List ℕ)). Appends old.errors x (errors_of one.given)) (sym same) one.errors;
      summary = is ∙ counted_is manner.keep_going s lines old before on after new counted one none;
      verdict = passed;
      complete = λ e. complete_of manner.keep_going s lines old before on after new counted one (sym passed ∙ e);
      dump = dump_end manner.keep_going s lines old before on after new counted one none manner.wants_dump (bytes_in ended.dump) dump;
    }
ends_by manner s lines old before on after new counted one none end errors same (Err fault) last is = tt

-- ---- not too much

short_or : (names : Option (List ℕ)) → IfSome names (λ bytes. length bytes ≤ most) → most < length (unwrap_or names []) → ⊥
short_or None short long = omega (arith, long)
short_or (Some bytes) short long = omega (arith, short, long)

longer_by : (b c : Bool) (rest : Type 0) → (b ≡ true → rest) → (c ≡ true → rest) → (b || c) ≡ true → rest
longer_by true c rest first second e = first refl
longer_by false c rest first second e = second e

no_longer : {A : Type 0} (texts : List (StudyText A)) → All HasFewBytes texts → HasLonger (map named_text texts) → ⊥
no_longer [] short longer = absurd cc
no_longer (t ∷ texts) short longer =
    longer_by (nat_lt most (length t.text.items)) _ ⊥ (λ e. omega (arith, ltb-true most (length t.text.items) e, all_head HasFewBytes t texts short))
    (no_longer texts (all_tail HasFewBytes t texts short)) longer

pub names_few : {A : Type 0} (names : Option (Vec ℕ A)) → IfSome names (λ bytes. vec_len bytes ≤ most)
    → IfSome (bytes_in names) (λ bytes. length bytes ≤ most)
names_few None few = tt
names_few (Some names) few = omega (arith, names.ok, few)

pub not_much : {A : Type 0} (texts : Texts A) → length texts.studies.items ≤ most → IfSome (bytes_in texts.names) (λ bytes. length bytes ≤ most)
    → All HasFewBytes texts.studies.items → IsTooMuch (given_in texts) → ⊥
not_much texts few names short (inl many) = omega (arith, few, many, length-map texts.studies.items named_text)
not_much texts few names short (inr (inl long)) = short_or (bytes_in texts.names) names long
not_much texts few names short (inr (inr longer)) = no_longer texts.studies.items short longer

-- ---- faults of the writing

pub writing_end : {A : Type 0} (given : Given) (fault : RunFault A) → AreAccepted given → MayEndWriting fault → MayEndRun given fault
writing_end given (Dump fault) accepted end = absurd end
writing_end given (Baseline fault) accepted end = absurd end
writing_end given (Names refusal) accepted end = absurd end
writing_end given Read accepted end = absurd end
writing_end given Write accepted end = accepted
writing_end given TooLarge accepted end = absurd end
writing_end given OutOfMemory accepted end = tt

not_before : {A : Type 0} (fault : RunFault A) → MayEndWriting fault → IsBeforeReplies fault → ⊥
not_before (Dump fault) end before = end
not_before (Baseline fault) end before = end
not_before (Names refusal) end before = end
not_before Read end before = end
not_before Write end before = before
not_before TooLarge end before = end
not_before OutOfMemory end before = before

-- nothing was written before a fault of the inputs, since there is none after them
pub untouched_after : {T A : Type 0} (r : Result T (RunFault A)) (K : Type 0) → IfErr r MayEndWriting → IfErr r (λ fault. IsBeforeReplies fault → K)
untouched_after (Ok value) K end = tt
untouched_after (Err fault) K end = λ before. absurd (not_before fault end before)

-- what holds anyhow holds after a success
pub on_success : {T E P : Type 0} (r : Result T E) → P → OnOk r P
on_success (Ok value) holds = holds
on_success (Err fault) holds = tt

-- ---- the run, from what was read of its inputs

module _ (how : Manner) (read given : Given) (s : Study) (lines : List Line) (same : read ≡ given) (are : lines ≡ all_lines read.studies)
    (begins : Begins how read s) where
  begins_given : Begins how given s
  begins_given = subst (λ (g : Given). Begins how g s) same begins

  lines_given : lines ≡ all_lines given.studies
  lines_given = are ∙ ap (λ (g : Given). all_lines g.studies) same

  pub ended_for : {A : Type 0} (manner : Manner) (r0 r1 e0 e1 : Option (List ℕ)) (result : Result (Ended A) (RunFault A))
      → IfOk result (Ends manner s lines r0 r1 e0 e1)
      → IfOk result (λ ended. (t : Study) × (Begins how given t × Ends manner t (all_lines given.studies) r0 r1 e0 e1 ended))
  ended_for manner r0 r1 e0 e1 result ends =
      IfOk-weaker result _ _
      (λ ended end. (s, (begins_given, subst (λ (l : List Line). Ends manner s l r0 r1 e0 e1 ended) lines_given end))) ends

  pub prefix_for : (K : Type 0) (keep_going : Bool) (r0 r1 e0 e1 : Option (List ℕ)) → WritesPrefix keep_going s lines r0 r1 e0 e1
      → K ⊎ ((t : Study) × (Begins how given t × WritesPrefix keep_going t (all_lines given.studies) r0 r1 e0 e1))
  prefix_for K keep_going r0 r1 e0 e1 part =
      inr (s, (begins_given, subst (λ (l : List Line). WritesPrefix keep_going s l r0 r1 e0 e1) lines_given part))

  pub inputs_for : {T A : Type 0} (result : Result T (RunFault A)) → (IsTooMuch read → ⊥) → IfErr result MayEndWriting → FitsInputs given result
  inputs_for result few end = record {
    accepted = on_success result (accepted_of how given s begins_given);
    within = on_success result (λ (much : IsTooMuch given). few (subst IsTooMuch (sym same) much));
    faults = IfErr-weaker result _ _ (λ fault may. writing_end given fault (accepted_of how given s begins_given) may) end;
  }
