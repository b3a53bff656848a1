-- Branches go on apart from one another.
use Rattle.std.proofs.Common.{◌≡◌, ℕ, List, [], ◌∷◌, ◌++◌, Bool, true, false, eqb, cond, Result, Ok, Err, refl, sym, ap, ◌∙◌}
use Rattle.std.proofs.lemmas.Bool.{eqb-true}
use Rattle.edit_script.specs.declared.command.Command.{Command}
use Rattle.edit_script.specs.declared.fault.ScriptFault.{ScriptFault}
use Rattle.edit_script.specs.Line.{meaning}
use Rattle.edit_history.specs.Session.{Session}
use Rattle.branches.specs.Branches.{Sessions}
use Rattle.branches.specs.Replies.{after}
use Rattle.whole_run.specs.Run.{answer_to, after_line, answers, sessions_after}
use Rattle.whole_run.specs.Alone.{is_in, lines_in, answers_in, command_in, commands_in, after_all}

-- what a line means
abbrev Meant : Type 0
Meant = Result (ℕ × Command) ScriptFault

-- ---- the session of a branch

own_command : (branch other : ℕ) (all : Sessions) (c : Command) (same : Bool) → eqb other branch ≡ same
    → cond same (after (all other) c) (all branch) ≡ after_all (all branch) (cond same (c ∷ []) [])
own_command branch other all c true e = ap (λ k. after (all k) c) (eqb-true other branch e)
own_command branch other all c false e = refl

-- after a line, it is what the line's command leads to, if it is one of the branch
own_line : (branch : ℕ) (all : Sessions) (m : Meant) → after_line all m branch ≡ after_all (all branch) (command_in branch m)
own_line branch all (Err fault) = refl
own_line branch all (Ok (other, c)) = own_command branch other all c (eqb other branch) refl

after_all-append : (s : Session) (cs ds : List Command) → after_all s (cs ++ ds) ≡ after_all (after_all s cs) ds
after_all-append s [] ds = refl
after_all-append s (c ∷ cs) ds = after_all-append (after s c) cs ds

own_session : (branch : ℕ) (all : Sessions) (lines : List (List ℕ)) → sessions_after all lines branch ≡ after_all (all branch) (commands_in branch lines)
unfolding sessions_after
own_session branch all [] = refl
own_session branch all (line ∷ lines) =
    own_session branch (after_line all (meaning line)) lines
    ∙ ap (λ s. after_all s (commands_in branch lines)) (own_line branch all (meaning line))
    ∙ sym (after_all-append (all branch) (command_in branch (meaning line)) (commands_in branch lines))

pub session_alone : (all : Sessions) (lines : List (List ℕ)) (branch : ℕ)
    → sessions_after all lines branch ≡ after_all (all branch) (commands_in branch lines)
session_alone all lines branch = own_session branch all lines

-- ---- the answers to a branch

-- a line of another branch, or of none, leaves the session
other_line : (branch : ℕ) (all : Sessions) (m : Meant) → is_in branch m ≡ false → after_line all m branch ≡ all branch
other_line branch all (Err fault) other = refl
other_line branch all (Ok (k, c)) other = rw other refl

-- two lines of sessions that agree in the branch answer its lines alike, and go on to agree
like_answer : (branch : ℕ) (all few : Sessions) (m : Meant) → is_in branch m ≡ true → all branch ≡ few branch → answer_to all m ≡ answer_to few m
like_answer branch all few (Err fault) own like = absurd cc
like_answer branch all few (Ok (k, c)) own like =
    rw (eqb-true k branch own) (ap (λ s. answer_to (λ (_ : ℕ). s) (Ok (branch, c))) like)

like_after : (branch : ℕ) (all few : Sessions) (m : Meant) → all branch ≡ few branch → after_line all m branch ≡ after_line few m branch
like_after branch all few m like = own_line branch all m ∙ ap (λ s. after_all s (command_in branch m)) like ∙ sym (own_line branch few m)

-- what is to be shown of these lines
abbrev Alike : ℕ → List (List ℕ) → Type 0
Alike branch lines = (all few : Sessions) → all branch ≡ few branch → answers_in branch all lines ≡ answers few (lines_in branch lines)

alike_at : (branch : ℕ) (all few : Sessions) (line : List ℕ) (lines : List (List ℕ)) → all branch ≡ few branch → Alike branch lines
    → (own : Bool) → is_in branch (meaning line) ≡ own
    → cond own (answer_to all (meaning line)) [] ++ answers_in branch (after_line all (meaning line)) lines
    ≡ answers few (cond own (line ∷ lines_in branch lines) (lines_in branch lines))
unfolding answers
alike_at branch all few line lines like rest true e =
    ap (λ answered. answered ++ answers_in branch (after_line all (meaning line)) lines) (like_answer branch all few (meaning line) e like)
    ∙ ap (λ answered. answer_to few (meaning line) ++ answered)
    (rest (after_line all (meaning line)) (after_line few (meaning line)) (like_after branch all few (meaning line) like))
alike_at branch all few line lines like rest false e =
    rest (after_line all (meaning line)) few (other_line branch all (meaning line) e ∙ like)

alike : (branch : ℕ) (lines : List (List ℕ)) → Alike branch lines
unfolding answers
alike branch [] all few like = refl
alike branch (line ∷ lines) all few like = alike_at branch all few line lines like (alike branch lines) (is_in branch (meaning line)) refl

pub answers_alone : (all : Sessions) (lines : List (List ℕ)) (branch : ℕ) → answers_in branch all lines ≡ answers all (lines_in branch lines)
answers_alone all lines branch = alike branch lines all all refl
