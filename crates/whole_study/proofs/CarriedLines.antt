-- Lines carried out one after another.
use Rattle.std.proofs.Common.{◌≡◌, ◌∙◌, sym, ap, subst, refl, ℕ, Bool, true, false, List, [], ◌∷◌, ◌++◌, append_assoc, append-nil, Option, None, inl, inr}
use Rattle.std.specs.Prelude.{◌⊎◌, ◌&&◌}
use Rattle.std.specs.List.{list_all}
use Rattle.std.specs.Io.KnownBytes.{Appends}
use Rattle.std.proofs.KnownBytes.{Appends-trans, Appends-nil}
use Rattle.std.proofs.lemmas.Grind.{flat_map-append}
use Rattle.std.proofs.lemmas.List.Folds.{list_all-append}
use Rattle.host_io.specs.WholeText.{AppendsPrefix}
use Rattle.host_io.proofs.PrefixLemmas.{AppendsPrefix-after, starts_with_front}
use Rattle.study_session.specs.Studies.{Study}
use Rattle.study_session.specs.Lines.{IsAnswerTo, after_line}
use Rattle.whole_study.specs.Lines.{Line}
use Rattle.whole_study.specs.Run.{Answered, AreAnswered, StopsAtLast, answered_line, error_line, errors_of, goes_on, is_accepted, replies_of, reply_of, study_after, summary_of}
use Rattle.whole_study.specs.steps.Carrying.{CarriesOut, IsStopBy, WritesPart, Written}
use Rattle.whole_study.specs.declared.summary.Summary.{Summary}

-- ---- answers

study_after-append : (s : Study) (xs ys : List Line) → study_after s (xs ++ ys) ≡ study_after (study_after s xs) ys
unfolding study_after
study_after-append s [] ys = refl
study_after-append s (x ∷ xs) ys = study_after-append (after_line s x.text) xs ys

answered-append : (s : Study) (xs ys : List Line) (a b : List Answered) → AreAnswered s xs a → AreAnswered (study_after s xs) ys b
    → AreAnswered s (xs ++ ys) (a ++ b)
unfolding AreAnswered study_after
answered-append s [] ys a b none more = subst (λ (l : List Answered). AreAnswered s ys (l ++ b)) (sym none) more
answered-append s (x ∷ xs) ys a b (first, (rest, (is, (all, whole)))) more = (
  first,
  (
    rest ++ b,
    (
      is,
      (
        answered-append (after_line s x.text) xs ys rest b all more,
        ap (λ (l : List Answered). l ++ b) whole ∙ append_assoc (answered_line s.format x first) rest b,
      ),
    ),
  ),
)

-- ---- where a run stops

goes_on_none : (keep_going : Bool) → goes_on keep_going [] ≡ true
goes_on_none true = refl
goes_on_none false = refl

pub and_true : (a b : Bool) → a ≡ true → b ≡ true → (a && b) ≡ true
and_true true b e f = f
and_true false b e f = absurd cc

all_of_both : (a b : List Answered) → list_all is_accepted a ≡ true → list_all is_accepted b ≡ true → list_all is_accepted (a ++ b) ≡ true
all_of_both a b e f = list_all-append is_accepted a b ∙ and_true (list_all is_accepted a) (list_all is_accepted b) e f

goes_on-append : (keep_going : Bool) (a b : List Answered) → goes_on keep_going a ≡ true → goes_on keep_going b ≡ true
    → goes_on keep_going (a ++ b) ≡ true
goes_on-append true a b e f = refl
goes_on-append false a b e f = all_of_both a b e f

stops-append : (a b : List Answered) → list_all is_accepted a ≡ true → StopsAtLast b → StopsAtLast (a ++ b)
stops-append a b e stop = record {
  front = a ++ stop.front;
  last = stop.last;
  split = ap (λ (l : List Answered). a ++ l) stop.split ∙ sym (append_assoc a stop.front (stop.last ∷ []));
  before = all_of_both a stop.front e stop.before;
  stops = stop.stops;
}

stop-append : (keep_going on : Bool) (left : List Line) (a b : List Answered) → goes_on keep_going a ≡ true → IsStopBy keep_going on left b
    → IsStopBy keep_going on left (a ++ b)
stop-append keep_going true left a b e (none, f) = (none, goes_on-append keep_going a b e f)
stop-append true false left a b e (strict, stop) = absurd cc
stop-append false false left a b e (strict, stop) = (strict, stops-append a b e stop)

first-append : (keep_going : Bool) (a b : List Answered) → goes_on keep_going a ≡ true → (goes_on keep_going b ≡ true) ⊎ StopsAtLast b
    → (goes_on keep_going (a ++ b) ≡ true) ⊎ StopsAtLast (a ++ b)
first-append true a b e stop = inl refl
first-append false a b e (inl f) = inl (all_of_both a b e f)
first-append false a b e (inr stop) = inr (stops-append a b e stop)

-- ---- texts

pub replies_of-append : (a b : List Answered) → replies_of (a ++ b) ≡ replies_of a ++ replies_of b
replies_of-append a b = flat_map-append reply_of a b

errors_of-append : (a b : List Answered) → errors_of (a ++ b) ≡ errors_of a ++ errors_of b
errors_of-append a b = flat_map-append error_line a b

appends_both : (a b c : Option (List ℕ)) (text first second : List ℕ) → text ≡ first ++ second → Appends a b first → Appends b c second → Appends a c text
appends_both a b c text first second e one two = subst (Appends a c) (sym e) (Appends-trans a b c first second one two)

pub prefix_both : (a b c : Option (List ℕ)) (text first second : List ℕ) → text ≡ first ++ second → Appends a b first → AppendsPrefix b c second
    → AppendsPrefix a c text
prefix_both a b c text first second e one two =
    AppendsPrefix-after a b c text first second [] (e ∙ ap (λ (l : List ℕ). first ++ l) (sym (append-nil second))) one two

pub prefix_whole : (a b : Option (List ℕ)) (text : List ℕ) → Appends a b text → AppendsPrefix a b text
prefix_whole a b text whole = (text, (starts_with_front text text [] (sym (append-nil text)), whole))

pub prefix_none : (a : Option (List ℕ)) (text : List ℕ) → AppendsPrefix a a text
prefix_none a text = ([], (refl, Appends-nil a))

-- ---- parts of lines

-- lines without answers are carried out
carried_silent : (keep_going : Bool) (s : Study) (lines : List Line) (old : Written) (before : Summary) (after : Study) → AreAnswered s lines []
    → after ≡ study_after s lines → CarriesOut keep_going s lines old before true after old before
carried_silent keep_going s lines old before after silent same = record {
  front = lines;
  left = [];
  split = sym (append-nil lines);
  given = [];
  answered = silent;
  stop = (refl, goes_on_none keep_going);
  study = same;
  replies = Appends-nil old.replies;
  errors = Appends-nil old.errors;
  summary = λ done e. e ∙ ap summary_of (sym (append-nil done));
}

-- nothing is carried out yet
pub carried_none : (keep_going : Bool) (s : Study) (old : Written) (before : Summary) → CarriesOut keep_going s [] old before true s old before
unfolding AreAnswered study_after
carried_none keep_going s old before = carried_silent keep_going s [] old before s refl refl

-- a line without an answer is carried out
pub no_answer : (keep_going : Bool) (s : Study) (line : Line) (old : Written) (before : Summary) (after : Study) → IsAnswerTo s line.text None
    → after ≡ after_line s line.text → CarriesOut keep_going s (line ∷ []) old before true after old before
unfolding AreAnswered study_after
no_answer keep_going s line old before after is same =
    carried_silent keep_going s (line ∷ []) old before after (None, ([], (is, (refl, refl)))) same

-- lines are carried out, and then others
pub carried_both : (keep_going : Bool) (s : Study) (xs ys : List Line) (old : Written) (before : Summary) (mid : Study) (between : Written) (middle : Summary)
    (on : Bool) (after : Study) (new : Written) (counted : Summary)
    → CarriesOut keep_going s xs old before true mid between middle → CarriesOut keep_going mid ys between middle on after new counted
    → CarriesOut keep_going s (xs ++ ys) old before on after new counted
carried_both keep_going s xs ys old before mid between middle on after new counted one two =
    let all : xs ≡ one.front = one.split ∙ ap (λ (l : List Line). one.front ++ l) one.stop.0 ∙ append-nil one.front in
    record {
      front = one.front ++ two.front;
      left = two.left;
      split = ap (λ (l : List Line). l ++ ys) all ∙ ap (λ (l : List Line). one.front ++ l) two.split ∙ sym (append_assoc one.front two.front two.left);
      given = one.given ++ two.given;
      answered = answered-append s one.front two.front one.given two.given one.answered
          (subst (λ (t : Study). AreAnswered t two.front two.given) one.study two.answered);
      stop = stop-append keep_going on two.left one.given two.given one.stop.1 two.stop;
      study = two.study ∙ ap (λ (t : Study). study_after t two.front) one.study ∙ sym (study_after-append s one.front two.front);
      replies = appends_both old.replies between.replies new.replies (replies_of (one.given ++ two.given)) (replies_of one.given) (replies_of two.given)
          (replies_of-append one.given two.given) one.replies two.replies;
      errors = appends_both old.errors between.errors new.errors (errors_of (one.given ++ two.given)) (errors_of one.given) (errors_of two.given)
          (errors_of-append one.given two.given) one.errors two.errors;
      summary = λ done e. two.summary (done ++ one.given) (one.summary done e) ∙ ap summary_of (append_assoc done one.given two.given);
    }

-- lines are carried out, up to one that stops the run before others
pub carried_stop : (keep_going : Bool) (s : Study) (xs ys : List Line) (old : Written) (before : Summary) (after : Study) (new : Written) (counted : Summary)
    → CarriesOut keep_going s xs old before false after new counted → CarriesOut keep_going s (xs ++ ys) old before false after new counted
carried_stop keep_going s xs ys old before after new counted one = record {
  front = one.front;
  left = one.left ++ ys;
  split = ap (λ (l : List Line). l ++ ys) one.split ∙ append_assoc one.front one.left ys;
  given = one.given;
  answered = one.answered;
  stop = one.stop;
  study = one.study;
  replies = one.replies;
  errors = one.errors;
  summary = one.summary;
}

-- ---- parts of what is written

pub part_both : (keep_going : Bool) (s : Study) (xs ys : List Line) (old : Written) (before : Summary) (mid : Study) (between : Written) (middle : Summary)
    (new : Written) → CarriesOut keep_going s xs old before true mid between middle → WritesPart keep_going mid ys between new
    → WritesPart keep_going s (xs ++ ys) old new
part_both keep_going s xs ys old before mid between middle new one two =
    let all : xs ≡ one.front = one.split ∙ ap (λ (l : List Line). one.front ++ l) one.stop.0 ∙ append-nil one.front in
    record {
      given = one.given ++ two.given;
      gives = record {
        front = one.front ++ two.gives.front;
        left = two.gives.left;
        split = ap (λ (l : List Line). l ++ ys) all ∙ ap (λ (l : List Line). one.front ++ l) two.gives.split
            ∙ sym (append_assoc one.front two.gives.front two.gives.left);
        answered = answered-append s one.front two.gives.front one.given two.given one.answered
            (subst (λ (t : Study). AreAnswered t two.gives.front two.given) one.study two.gives.answered);
        stop = first-append keep_going one.given two.given one.stop.1 two.gives.stop;
      };
      replies = prefix_both old.replies between.replies new.replies (replies_of (one.given ++ two.given)) (replies_of one.given) (replies_of two.given)
          (replies_of-append one.given two.given) one.replies two.replies;
      errors = prefix_both old.errors between.errors new.errors (errors_of (one.given ++ two.given)) (errors_of one.given) (errors_of two.given)
          (errors_of-append one.given two.given) one.errors two.errors;
    }

pub part_more : (keep_going : Bool) (s : Study) (xs ys : List Line) (old new : Written) → WritesPart keep_going s xs old new
    → WritesPart keep_going s (xs ++ ys) old new
part_more keep_going s xs ys old new one = record {
  given = one.given;
  gives = record {
    front = one.gives.front;
    left = one.gives.left ++ ys;
    split = ap (λ (l : List Line). l ++ ys) one.gives.split ∙ append_assoc one.gives.front one.gives.left ys;
    answered = one.gives.answered;
    stop = one.gives.stop;
  };
  replies = one.replies;
  errors = one.errors;
}

pub part_none : (keep_going : Bool) (s : Study) (lines : List Line) (old : Written) → WritesPart keep_going s lines old old
unfolding AreAnswered
part_none keep_going s lines old = record {
  given = [];
  gives = record { front = []; left = lines; split = refl; answered = refl; stop = inl (goes_on_none keep_going) };
  replies = prefix_none old.replies [];
  errors = prefix_none old.errors [];
}

pub stop_either : (keep_going on : Bool) (left : List Line) (given : List Answered) → IsStopBy keep_going on left given
    → (goes_on keep_going given ≡ true) ⊎ StopsAtLast given
stop_either keep_going true left given stop = inl stop.1
stop_either keep_going false left given stop = inr stop.1
