-- The steps of a run over the lines of its script.
use Rattle.std.proofs.Common.{◌≡◌, ◌≢◌, ℕ, ◌+◌, ◌<◌, ◌≤◌, ◌^◌, List, [], ◌∷◌, ◌++◌, Option, None, Some, eqb, cond, length, sym, ap, subst, ◌∙◌}
use Rattle.std.proofs.Common.{append_assoc, append-nil, refl, arith, rules, true, Result, Ok, Err}
use Rattle.std.specs.Borrow.{Bor}
use Rattle.std.proofs.lemmas.List.{length-append}
use Rattle.std.proofs.lemmas.List.Sums.{count_by-le-length, sum_by-append}
use Rattle.std.proofs.lemmas.List.Splits.{length-slice_split}
use Rattle.std.specs.Io.KnownBytes.{Appends}
use Rattle.std.proofs.KnownBytes.{Appends-trans, Appends-nil}
use Rattle.host_io.specs.WholeText.{AppendsPrefix}
use Rattle.host_io.proofs.PrefixLemmas.{AppendsPrefix-after}
use Rattle.edit_script.specs.declared.command.Command.{Command}
use Rattle.edit_script.specs.declared.fault.ScriptFault.{ScriptFault}
use Rattle.edit_script.specs.declared.fault.ScriptFault.TheVariants.{Empty, UnknownWord, MissingWord, ExtraWord, BadNumber, BadAddress, BadPrefix, BadBranch}
use Rattle.edit_script.specs.Line.{meaning}
use Rattle.branches.specs.Branches.{Sessions}
use Rattle.branches.specs.Replies.{Answer, script_text}
use Rattle.whole_run.specs.Inputs.{longest_script}
use Rattle.whole_run.specs.Run.{answer_to, after_line, answers, sessions_after, lines_of, text_of}
use Rattle.whole_run.specs.WholeRun.{refused_count}

-- the bytes that are left, and the end
abbrev pub turns_left : Option (Bor (List ℕ)) → ℕ
turns_left None = 0
turns_left (Some rest) = 1 + length rest.now

-- what the next line is answered
abbrev pub answered : Sessions → List ℕ → List Answer
answered s line = answer_to s (meaning line)

-- the sessions after the next line
abbrev pub next : Sessions → List ℕ → Sessions
next s line = after_line s (meaning line)

text_of-append : (xs ys : List Answer) → text_of (xs ++ ys) ≡ text_of xs ++ text_of ys
text_of-append [] ys = refl
text_of-append (x ∷ xs) ys = ap (λ t. x.text ++ t) (text_of-append xs ys) ∙ sym (append_assoc x.text (text_of xs) (text_of ys))

-- of the answers and the sessions of all lines, what is written, and what the lines that are left still give
pub record Written (old new : Option (List ℕ)) (first : Sessions) (all : List (List ℕ)) (now : Sessions) (left : List (List ℕ)) : Type 0 where
  pub text : List ℕ
  pub appended : Appends old new text
  pub whole : text_of (answers first all) ≡ text ++ text_of (answers now left)
  pub ends : sessions_after first all ≡ sessions_after now left

pub written_none : (a : Option (List ℕ)) (first : Sessions) (all : List (List ℕ)) → Written a a first all first all
written_none a first all = record { text = []; appended = Appends-nil a; whole = refl; ends = refl }

answers_turn : (now : Sessions) (left : List (List ℕ)) (line : List ℕ) (more : List (List ℕ)) → left ≡ line ∷ more
    → answers now left ≡ answered now line ++ answers (next now line) more
unfolding answers
answers_turn now left line more e = ap (answers now) e

text_turn : (text : List ℕ) (now : Sessions) (left : List (List ℕ)) (line : List ℕ) (more : List (List ℕ)) → left ≡ line ∷ more
    → text ++ text_of (answers now left) ≡ (text ++ text_of (answered now line)) ++ text_of (answers (next now line) more)
text_turn text now left line more e =
    ap (λ xs. text ++ text_of xs) (answers_turn now left line more e)
    ∙ ap (λ t. text ++ t) (text_of-append (answered now line) (answers (next now line) more))
    ∙ sym (append_assoc text (text_of (answered now line)) (text_of (answers (next now line) more)))

-- the answer to the next line is written
pub written_line : (a b c : Option (List ℕ)) (first : Sessions) (all : List (List ℕ))
    (now : Sessions) (left : List (List ℕ)) (line : List ℕ) (more : List (List ℕ))
    → Written a b first all now left → left ≡ line ∷ more → Appends b c (text_of (answered now line)) → Written a c first all (next now line) more
unfolding sessions_after
written_line a b c first all now left line more w e reply = record {
  text = w.text ++ text_of (answered now line);
  appended = Appends-trans a b c _ _ w.appended reply;
  whole = w.whole ∙ text_turn w.text now left line more e;
  ends = w.ends ∙ ap (sessions_after now) e;
}

-- a part of the next answer is written too
pub written_part : (a b c : Option (List ℕ)) (first : Sessions) (all : List (List ℕ))
    (now : Sessions) (left : List (List ℕ)) (line : List ℕ) (more : List (List ℕ))
    → Written a b first all now left → left ≡ line ∷ more → AppendsPrefix b c (text_of (answered now line)) → AppendsPrefix a c (text_of (answers first all))
written_part a b c first all now left line more w e part =
    AppendsPrefix-after a b c _ w.text (text_of (answered now line)) (text_of (answers (next now line) more))
    (w.whole ∙ text_turn w.text now left line more e ∙ append_assoc w.text (text_of (answered now line)) (text_of (answers (next now line) more))) w.appended part

-- all lines are carried out
pub written_all : (a b : Option (List ℕ)) (first : Sessions) (all : List (List ℕ)) (now : Sessions) (left : List (List ℕ))
    → Written a b first all now left → left ≡ [] → Appends a b (text_of (answers first all))
unfolding answers
written_all a b first all now left w e =
    subst (Appends a b) (sym (w.whole ∙ ap (λ l. w.text ++ text_of (answers now l)) e ∙ append-nil w.text)) w.appended

pub written_end : (a b : Option (List ℕ)) (first : Sessions) (all : List (List ℕ)) (now : Sessions) (left : List (List ℕ))
    → Written a b first all now left → left ≡ [] → now ≡ sessions_after first all
unfolding sessions_after
written_end a b first all now left w e = sym (w.ends ∙ ap (sessions_after now) e)

-- a line that is no command, and is not empty, has one answer
reported_fault : (s : Sessions) (fault : ScriptFault) → fault ≢ Empty
    → answer_to s (Err fault) ≡ record { text = script_text fault; refused = true } ∷ []
reported_fault s Empty some = absurd (some refl)
reported_fault s UnknownWord some = refl
reported_fault s MissingWord some = refl
reported_fault s ExtraWord some = refl
reported_fault s BadNumber some = refl
reported_fault s BadAddress some = refl
reported_fault s BadPrefix some = refl
reported_fault s BadBranch some = refl

-- its answer is the text of its fault, it is counted once and as refused, and the sessions stay
pub record FaultAnswered (s : Sessions) (fault : ScriptFault) (read : Result (ℕ × Command) ScriptFault) : Type 0 where
  pub text : text_of (answer_to s read) ≡ script_text fault
  pub one : length (answer_to s read) ≡ 1
  pub refused : refused_count (answer_to s read) ≡ 1
  pub same : s ≡ after_line s read

pub fault_answered : (s : Sessions) (fault : ScriptFault) → fault ≢ Empty → (read : Result (ℕ × Command) ScriptFault) → Err fault ≡ read
    → FaultAnswered s fault read
fault_answered s fault some read is =
    let answered = reported_fault s fault some in
    subst (FaultAnswered s fault) is (record {
      text = ap text_of answered ∙ append-nil (script_text fault);
      one = ap length answered;
      refused = ap refused_count answered;
      same = refl;
    })

-- ---- counts

-- a line has one answer at most
one_answer : (s : Sessions) (read : Result (ℕ × Command) ScriptFault) → length (answer_to s read) ≤ 1
one_answer s (Err Empty) = search rules
one_answer s (Err UnknownWord) = search rules
one_answer s (Err MissingWord) = search rules
one_answer s (Err ExtraWord) = search rules
one_answer s (Err BadNumber) = search rules
one_answer s (Err BadAddress) = search rules
one_answer s (Err BadPrefix) = search rules
one_answer s (Err BadBranch) = search rules
one_answer s (Ok (branch, command)) = search rules

few_answers : (s : Sessions) (lines : List (List ℕ)) → length (answers s lines) ≤ length lines
unfolding answers
few_answers s [] = search rules
few_answers s (line ∷ lines) =
    omega (arith, length-append (answered s line) (answers (next s line) lines), one_answer s (meaning line), few_answers (next s line) lines)

-- the number of lines is at most that of bytes, and one
few_lines : (script : List ℕ) → length (lines_of script) ≤ length script + 1
few_lines script = omega (
  arith,
  length-slice_split (λ byte. eqb byte 10) script,
  count_by-le-length (λ byte. eqb byte 10) script,
)

-- one more answer can be counted
pub commands_room : (s now : Sessions) (script : List ℕ) (count : ℕ) (left : List (List ℕ)) → length script ≤ longest_script
    → count + length (answers now left) ≡ length (answers s (lines_of script)) → count + 1 < 2 ^ 64
commands_room s now script count left small e = omega (arith, few_answers s (lines_of script), few_lines script)

pub refused_room : (s now : Sessions) (script : List ℕ) (count : ℕ) (left : List (List ℕ)) → length script ≤ longest_script
    → count + refused_count (answers now left) ≡ refused_count (answers s (lines_of script)) → count + 1 < 2 ^ 64
refused_room s now script count left small e =
    omega (arith, few_answers s (lines_of script), few_lines script, count_by-le-length (λ (a : Answer). a.refused) (answers s (lines_of script)))

-- one more line is counted
pub commands_line : (now : Sessions) (count total new : ℕ) (left : List (List ℕ)) (line : List ℕ) (more : List (List ℕ))
    → count + length (answers now left) ≡ total → left ≡ line ∷ more → new ≡ count + length (answered now line)
    → new + length (answers (next now line) more) ≡ total
commands_line now count total new left line more e turn one =
    omega (arith, ap length (answers_turn now left line more turn), length-append (answered now line) (answers (next now line) more))

pub refused_line : (now : Sessions) (count total new : ℕ) (left : List (List ℕ)) (line : List ℕ) (more : List (List ℕ))
    → count + refused_count (answers now left) ≡ total → left ≡ line ∷ more → new ≡ count + refused_count (answered now line)
    → new + refused_count (answers (next now line) more) ≡ total
refused_line now count total new left line more e turn one =
    omega (
      arith,
      ap refused_count (answers_turn now left line more turn),
      sum_by-append
          (λ (a : Answer). cond a.refused 1 0) (answered now line) (answers (next now line) more),
    )

-- all lines are counted
pub commands_all : (now : Sessions) (count total : ℕ) (left : List (List ℕ))
    → count + length (answers now left) ≡ total → left ≡ [] → count ≡ total
unfolding answers
commands_all now count total left e end = omega (arith, ap (λ l. length (answers now l)) end, e)

pub refused_all : (now : Sessions) (count total : ℕ) (left : List (List ℕ))
    → count + refused_count (answers now left) ≡ total → left ≡ [] → count ≡ total
unfolding answers
refused_all now count total left e end = omega (arith, ap (λ l. refused_count (answers now l)) end, e)
