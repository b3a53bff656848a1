-- The course of a dialog: each line is asked for and carried out, one after another.
use Rattle.std.proofs.Common.{◌≡◌, ◌∙◌, sym, ap, subst, refl, ℕ, ◌+◌, ◌<◌, ◌≤◌, Bool, true, false, List, [], ◌∷◌, ◌++◌, append_assoc, append-nil, length, length-append, Option, inl, arith}
use Rattle.std.specs.Io.KnownBytes.{Appends, Consumes, IsAtEnd, Keeps}
use Rattle.std.proofs.KnownBytes.{Appends-kept, Appends-nil, Appends-trans, Consumes-nil, Consumes-trans}
use Rattle.host_io.specs.WholeText.{AppendsPrefix}
use Rattle.host_io.proofs.PrefixLemmas.{AppendsPrefix-after}
use Rattle.study_session.specs.Studies.{Study}
use Rattle.whole_study.specs.Calls.{most}
use Rattle.whole_study.specs.Lines.{Line}
use Rattle.whole_study.specs.Run.{AreAnswered, errors_of, replies_of}
use Rattle.whole_study.specs.Typed.{Awaits, Known, prompt_text, prompts_for, typed_lines}
use Rattle.whole_study.specs.steps.Carrying.{CarriesOut, WritesPart, Written}
use Rattle.whole_study.specs.steps.Endings.{MayEndWriting}
use Rattle.whole_study.specs.steps.Typing.{Breaks, Completes, IsBegun, IsOneLine, IsTyped, with_end, written_in}
use Rattle.whole_study.specs.declared.fault.RunFault.{RunFault}
use Rattle.whole_study.specs.declared.fault.RunFault.TheVariants.{Read, TooLarge}
use Rattle.whole_study.specs.declared.summary.Summary.{Summary}
use Rattle.whole_study.specs.declared.typing.TypedLine.{TypedLine}
use Rattle.whole_study.proofs.CarriedLines.{carried_both, carried_none, part_both, part_more, prefix_whole}
use Rattle.whole_study.proofs.NextLines.{after_end, carried_on, first_line, lines_from, next_line, one_line, placed, prompts_for-append, prompts_for_one, typed_line}

-- ---- the course of a dialog

-- what was typed so far is in whole lines, each of which was asked for and is carried out; the next line has this number, and
-- this number of bytes may still be typed
pub record Dialog (s : Study) (old : Known) (before : Summary) (limit number : ℕ) (now : Study) (new : Known) (counted : Summary) : Type 0 where
  pub text : List ℕ
  pub front : List Line
  pub typed : Consumes old.typed new.typed text
  pub room : limit + length text ≡ most
  pub split : (more : List ℕ) → typed_lines (text ++ more) ≡ front ++ lines_from number more
  pub prompts : Appends old.prompts new.prompts (prompts_for front)
  pub carried : CarriesOut true s front (written_in old) before true now (written_in new) counted

pub dialog_none : (s : Study) (old : Known) (before : Summary) → Dialog s old before most 1 s old before
dialog_none s old before = record {
  text = [];
  front = [];
  typed = Consumes-nil old.typed;
  room = refl;
  split = λ more. refl;
  prompts = Appends-nil old.prompts;
  carried = carried_none true s (written_in old) before;
}

-- a line was asked for, and typed
pub record Asked (old new : Known) (is_last : Bool) (text : List ℕ) : Type 0 where
  pub typed : Consumes old.typed new.typed (with_end is_last text)
  pub one : IsOneLine text
  pub prompt : Appends old.prompts new.prompts prompt_text
  pub replies : Keeps old.replies new.replies
  pub errors : Keeps old.errors new.errors

pub asked_by : {A : Type 0} (old new : Known) (line : TypedLine A) → IsTyped old.typed new.typed line → Appends old.prompts new.prompts prompt_text
    → Keeps old.replies new.replies → Keeps old.errors new.errors → Asked old new line.is_last line.text.items
asked_by old new line typed prompt replies errors = record {
  typed = typed.taken;
  one = typed.one;
  prompt = prompt;
  replies = replies;
  errors = errors;
}

module _ (s : Study) (old : Known) (before : Summary) (limit number : ℕ) (now : Study) (mid : Known) (counted : Summary)
    (course : Dialog s old before limit number now mid counted) where
  -- both writers are flushed, and no more
  abbrev kept : (new : Known) → Keeps mid.replies new.replies → Keeps mid.errors new.errors
      → CarriesOut true s course.front (written_in old) before true now (written_in new) counted
  kept new replies errors = record {
    front = course.carried.front;
    left = course.carried.left;
    split = course.carried.split;
    given = course.carried.given;
    answered = course.carried.answered;
    stop = course.carried.stop;
    study = course.carried.study;
    replies = Appends-kept old.replies mid.replies new.replies (replies_of course.carried.given) course.carried.replies replies;
    errors = Appends-kept old.errors mid.errors new.errors (errors_of course.carried.given) course.carried.errors errors;
    summary = course.carried.summary;
  }

  all_front : course.front ≡ course.carried.front
  all_front =
      course.carried.split ∙ ap (λ (l : List Line). course.carried.front ++ l) course.carried.stop.0 ∙ append-nil course.carried.front

  -- the prompts for all lines, of which the next is this one
  prompts_next : (lines : List Line) (first : Line) (rest : List Line) → lines ≡ course.front ++ first ∷ rest
      → prompts_for lines ≡ prompts_for course.front ++ (prompt_text ++ prompts_for rest)
  prompts_next lines first rest split = ap prompts_for split ∙ prompts_for-append course.front (first ∷ rest)

  -- ---- asking fails

  ask_split : (part : List ℕ) → typed_lines (course.text ++ part) ≡ course.front ++ (first_line number part).first ∷ (first_line number part).rest
  ask_split part = course.split part ∙ ap (λ (l : List Line). course.front ++ l) (first_line number part).split

  part_of : (new : Known) (part : List ℕ) → Keeps mid.replies new.replies → Keeps mid.errors new.errors
      → WritesPart true s (typed_lines (course.text ++ part)) (written_in old) (written_in new)
  part_of new part replies errors =
      let one = kept new replies errors in
      record {
        given = one.given;
        gives = record {
          front = one.front;
          left = lines_from number part;
          split = course.split part ∙ ap (λ (l : List Line). l ++ lines_from number part) all_front;
          answered = one.answered;
          stop = inl one.stop.1;
        };
        replies = prefix_whole old.replies new.replies (replies_of one.given) one.replies;
        errors = prefix_whole old.errors new.errors (errors_of one.given) one.errors;
      }

  awaits : (new : Known) (part : List ℕ) → IsOneLine part → Appends mid.prompts new.prompts prompt_text → Keeps mid.replies new.replies
      → Keeps mid.errors new.errors → Awaits s (course.text ++ part) old new
  awaits new part one prompt replies errors =
      let split : typed_lines (course.text ++ part) ≡ course.front ++ placed number part ∷ [] =
      course.split part ∙ ap (λ (l : List Line). course.front ++ l) (one_line number part one) in
      let all = kept new replies errors in
      record {
        whole = course.front;
        begun = placed number part;
        split = split;
        given = all.given;
        answered = subst (λ (l : List Line). AreAnswered s l all.given) (sym all_front) all.answered;
        prompts = subst (Appends old.prompts new.prompts)
            (sym (ap prompts_for split ∙ prompts_for_one course.front (placed number part)))
            (Appends-trans old.prompts mid.prompts new.prompts (prompts_for course.front) prompt_text course.prompts prompt);
        replies = all.replies;
        errors = all.errors;
      }

  longer : (part : List ℕ) → limit < length part → most < length (course.text ++ part)
  longer part long = omega (arith, long, course.room, length-append course.text part)

  pub ask_fails : {A : Type 0} (new : Known) (fault : RunFault A) → IsBegun limit mid.typed new.typed fault
      → AppendsPrefix mid.prompts new.prompts prompt_text → (fault ≡ Read → Appends mid.prompts new.prompts prompt_text)
      → Keeps mid.replies new.replies → Keeps mid.errors new.errors → Breaks s old new fault
  ask_fails new fault begun prompt shown replies errors = record {
    text = course.text ++ begun.part;
    typed = Consumes-trans old.typed mid.typed new.typed course.text begun.part course.typed begun.taken;
    prompts = AppendsPrefix-after old.prompts mid.prompts new.prompts (prompts_for (typed_lines (course.text ++ begun.part)))
        (prompts_for course.front) prompt_text (prompts_for (first_line number begun.part).rest)
        (prompts_next _ (first_line number begun.part).first (first_line number begun.part).rest (ask_split begun.part)) course.prompts prompt;
    written = part_of new begun.part replies errors;
    awaited = λ is_read. awaits new begun.part (begun.one is_read) (shown is_read) replies errors;
    long = λ is_long. longer begun.part (begun.long is_long);
  }

  -- ---- a line was typed

  module _ (asked : Known) (is_last : Bool) (text : List ℕ) (line : Asked mid asked is_last text) where
    abbrev now_typed : List ℕ
    now_typed = course.text ++ with_end is_last text

    typed_split : typed_lines now_typed ≡ course.front ++ placed number text ∷ after_end is_last (number + 1)
    typed_split = course.split (with_end is_last text) ∙ ap (λ (l : List Line). course.front ++ l) (typed_line is_last number text line.one)

    typed_whole : typed_lines now_typed ≡ (course.front ++ placed number text ∷ []) ++ after_end is_last (number + 1)
    typed_whole = typed_split ∙ sym (append_assoc course.front (placed number text ∷ []) (after_end is_last (number + 1)))

    consumed : Consumes old.typed asked.typed now_typed
    consumed = Consumes-trans old.typed mid.typed asked.typed course.text (with_end is_last text) course.typed line.typed

    prompted : Appends old.prompts asked.prompts (prompts_for (course.front ++ placed number text ∷ []))
    prompted =
        subst (Appends old.prompts asked.prompts) (sym (prompts_for_one course.front (placed number text)))
        (Appends-trans old.prompts mid.prompts asked.prompts (prompts_for course.front) prompt_text course.prompts line.prompt)

    carried_more : (on : Bool) (next : Study) (done : Written) (then_counted : Summary)
        → CarriesOut true now (placed number text ∷ []) (written_in asked) counted on next done then_counted
        → CarriesOut true s (course.front ++ placed number text ∷ []) (written_in old) before true next done then_counted
    carried_more on next done then_counted two =
        carried_both true s course.front (placed number text ∷ []) (written_in old) before now (written_in asked) counted true next done then_counted
        (kept asked line.replies line.errors)
        (carried_on on now (placed number text ∷ []) (written_in asked) counted next done then_counted two)

    -- it is carried out, and the next may be asked for
    pub dialog_more : (less : ℕ) (on : Bool) (next : Study) (replies errors : Option (List ℕ)) (then_counted : Summary)
        → is_last ≡ false → less + (length text + 1) ≡ limit
        → CarriesOut true now (placed number text ∷ []) (written_in asked) counted on next (record { replies = replies; errors = errors }) then_counted
        → Dialog s old before less (number + 1) next (record asked { replies = replies; errors = errors }) then_counted
    dialog_more less on next replies errors then_counted goes fits two =
        let ended : with_end is_last text ≡ text ++ 10 ∷ [] = ap (λ (b : Bool). with_end b text) goes in
        record {
          text = course.text ++ (text ++ 10 ∷ []);
          front = course.front ++ placed number text ∷ [];
          typed = subst (λ (t : List ℕ). Consumes old.typed asked.typed (course.text ++ t)) ended consumed;
          room = omega (arith, fits, course.room, length-append course.text (text ++ 10 ∷ []), length-append text (10 ∷ []));
          split = λ more. ap typed_lines (append_assoc course.text (text ++ 10 ∷ []) more) ∙ course.split ((text ++ 10 ∷ []) ++ more)
              ∙ ap (λ (t : List ℕ). course.front ++ lines_from number t) (append_assoc text (10 ∷ []) more)
              ∙ ap (λ (l : List Line). course.front ++ l) (next_line number text more line.one)
              ∙ sym (append_assoc course.front (placed number text ∷ []) (lines_from (number + 1) more));
          prompts = prompted;
          carried = carried_more on next (record { replies = replies; errors = errors }) then_counted two;
        }

    -- it is carried out, and was the last
    pub dialog_last : (on : Bool) (next : Study) (replies errors : Option (List ℕ)) (then_counted : Summary) → is_last ≡ true
        → IsAtEnd asked.typed → length (with_end is_last text) ≤ limit
        → CarriesOut true now (placed number text ∷ []) (written_in asked) counted on next (record { replies = replies; errors = errors }) then_counted
        → Completes s old before next (record asked { replies = replies; errors = errors }) then_counted
    dialog_last on next replies errors then_counted last at_end within two =
        let whole : typed_lines now_typed ≡ course.front ++ placed number text ∷ [] =
        typed_split ∙ ap (λ (b : Bool). course.front ++ placed number text ∷ after_end b (number + 1)) last in
        record {
          text = now_typed;
          typed = consumed;
          at_end = at_end;
          within = omega (arith, within, course.room, length-append course.text (with_end is_last text));
          prompts = subst (λ (l : List Line). Appends old.prompts asked.prompts (prompts_for l)) (sym whole) prompted;
          carried = subst
              (λ (l : List Line). CarriesOut true s l (written_in old) before true next (record { replies = replies; errors = errors }) then_counted)
              (sym whole) (carried_more on next (record { replies = replies; errors = errors }) then_counted two);
        }

    -- carrying it out fails
    pub carrying_fails : {A : Type 0} (replies errors : Option (List ℕ)) (fault : RunFault A) → MayEndWriting fault
        → WritesPart true now (placed number text ∷ []) (written_in asked) (record { replies = replies; errors = errors })
        → Breaks s old (record asked { replies = replies; errors = errors }) fault
    carrying_fails replies errors fault may two = record {
      text = now_typed;
      typed = consumed;
      prompts = AppendsPrefix-after old.prompts mid.prompts asked.prompts (prompts_for (typed_lines now_typed)) (prompts_for course.front) prompt_text
          (prompts_for (after_end is_last (number + 1)))
          (prompts_next (typed_lines now_typed) (placed number text) (after_end is_last (number + 1)) typed_split) course.prompts
          (prefix_whole mid.prompts asked.prompts prompt_text line.prompt);
      written = subst (λ (l : List Line). WritesPart true s l (written_in old) (record { replies = replies; errors = errors })) (sym typed_whole)
          (part_more true s (course.front ++ placed number text ∷ []) (after_end is_last (number + 1)) (written_in old)
          (record { replies = replies; errors = errors })
          (part_both true s course.front (placed number text ∷ []) (written_in old) before now (written_in asked) counted
          (record { replies = replies; errors = errors }) (kept asked line.replies line.errors) two));
      awaited = λ is_read. absurd (subst MayEndWriting is_read may);
      long = λ is_long. absurd (subst MayEndWriting is_long may);
    }
