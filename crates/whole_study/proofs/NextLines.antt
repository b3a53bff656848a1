-- The lines of what is typed, and their prompts.
use Rattle.std.proofs.Common.{◌≡◌, ◌∙◌, ap, refl, ℕ, ◌+◌, ◌≤◌, Bool, true, false, List, [], ◌∷◌, ◌++◌, append-nil, length, length-append, arith}
use Rattle.std.specs.Prelude.{◌==◌, codes}
use Rattle.std.specs.List.{slice_split}
use Rattle.std.proofs.lemmas.Grind.{flat_map-append}
use Rattle.std.proofs.lemmas.List.Splits.{length-slice_split, slice_split_at, slice_split_none}
use Rattle.study_session.specs.Studies.{Study}
use Rattle.whole_study.specs.Lines.{Line, numbered}
use Rattle.whole_study.specs.Typed.{prompt_text, prompts_for}
use Rattle.whole_study.specs.steps.Carrying.{CarriesOut, Written}
use Rattle.whole_study.specs.steps.Typing.{IsOneLine, with_end}
use Rattle.whole_study.specs.declared.summary.Summary.{Summary}

-- ---- the lines that are left

-- a line of what is typed
abbrev pub placed : ℕ → List ℕ → Line
placed number text = record { file = codes "-"; number = number; text = text }

-- the lines of a text, the first of which has this number
abbrev pub lines_from : ℕ → List ℕ → List Line
lines_from number text = numbered (codes "-") number (slice_split (λ byte. byte == 10) text)

-- what stands after a line: the line that is begun after its line feed
abbrev pub after_end : Bool → ℕ → List Line
after_end true number = []
after_end false number = lines_from number []

pub one_line : (number : ℕ) (text : List ℕ) → IsOneLine text → lines_from number text ≡ placed number text ∷ []
one_line number text one = ap (numbered (codes "-") number) (slice_split_none (λ byte. byte == 10) text one)

pub next_line : (number : ℕ) (text more : List ℕ) → IsOneLine text
    → lines_from number (text ++ 10 ∷ more) ≡ placed number text ∷ lines_from (number + 1) more
next_line number text more one = ap (numbered (codes "-") number) (slice_split_at (λ byte. byte == 10) text 10 more one refl)

pub typed_line : (is_last : Bool) (number : ℕ) (text : List ℕ) → IsOneLine text
    → lines_from number (with_end is_last text) ≡ placed number text ∷ after_end is_last (number + 1)
typed_line true number text one = one_line number text one
typed_line false number text one = next_line number text [] one

-- a line that is not the last has room for its line feed
pub within_end : (is_last : Bool) (limit : ℕ) (text : List ℕ) → is_last ≡ false → length (with_end is_last text) ≤ limit → length text + 1 ≤ limit
within_end true limit text goes within = absurd cc
within_end false limit text goes within = omega (arith, within, length-append text (10 ∷ []))

-- a text has a first line
pub record HasFirst (lines : List Line) : Type 0 where
  pub first : Line
  pub rest : List Line
  pub split : lines ≡ first ∷ rest

first_of : (number n : ℕ) (parts : List (List ℕ)) → length parts ≡ n + 1 → HasFirst (numbered (codes "-") number parts)
first_of number n [] long = absurd (omega (arith, long))
first_of number n (part ∷ parts) long = record {
  first = placed number part;
  rest = numbered (codes "-") (number + 1) parts;
  split = refl;
}

pub first_line : (number : ℕ) (text : List ℕ) → HasFirst (lines_from number text)
first_line number text = first_of number _ (slice_split (λ byte. byte == 10) text) (length-slice_split (λ byte. byte == 10) text)

-- ---- prompts

pub prompts_for-append : (a b : List Line) → prompts_for (a ++ b) ≡ prompts_for a ++ prompts_for b
prompts_for-append a b = flat_map-append (λ (line : Line). prompt_text) a b

-- lines, and one more
pub prompts_for_one : (a : List Line) (line : Line) → prompts_for (a ++ line ∷ []) ≡ prompts_for a ++ prompt_text
prompts_for_one a line = prompts_for-append a (line ∷ []) ∙ ap (λ (l : List ℕ). prompts_for a ++ l) (append-nil prompt_text)

-- ---- a run that keeps going does not stop

pub carried_on : (on : Bool) (s : Study) (lines : List Line) (old : Written) (before : Summary) (after : Study) (new : Written) (counted : Summary)
    → CarriesOut true s lines old before on after new counted → CarriesOut true s lines old before true after new counted
carried_on true s lines old before after new counted one = one
carried_on false s lines old before after new counted one = let strict : true ≡ false = one.stop.0 in absurd cc
