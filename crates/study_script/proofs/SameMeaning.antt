-- Lines that `ospf-plan` takes, and lines that have no reply.
use Rattle.std.proofs.Common.{◌≡◌, ℕ, List, [], ◌∷◌, get_or, Some, None, Ok, Err, ap, ◌∙◌, eq-eqb}
use Rattle.std.proofs.lemmas.Bool.{cond-true}
use Rattle.edit_script.specs.declared.command.Command.{Command}
use Rattle.edit_script.specs.declared.fault.ScriptFault.TheVariants.{Empty}
use Rattle.edit_script.specs.Words.{Word, words}
use Rattle.edit_script.specs.Line.{meaning as plan_meaning, meaning_of_words}
use Rattle.study_arguments.specs.Values.{Lookup}
use Rattle.study_script.specs.Line.{meaning, plan, plan_or_study, study_meaning}

pub taken : (names : Lookup) (line : List ℕ) (branch : ℕ) (c : Command) → plan_meaning line ≡ Ok (branch, c) → meaning names line ≡ Ok (Some (branch, plan c))
unfolding meaning
taken names line branch c h = ap (plan_or_study names (words line)) h

pub by_words : (names : Lookup) (line : List ℕ) (ws : List Word) → words line ≡ ws → meaning names line ≡ plan_or_study names ws (meaning_of_words ws)
unfolding meaning
by_words names line ws h = ap (λ (those : List Word). plan_or_study names those (meaning_of_words those)) h

pub empty : (names : Lookup) (line : List ℕ) → words line ≡ [] → meaning names line ≡ Ok None
unfolding meaning_of_words study_meaning
empty names line h = by_words names line [] h

pub comment : (names : Lookup) (line : List ℕ) (first : Word) (others : List Word) → words line ≡ first ∷ others → get_or first 0 0 ≡ 35
    → meaning names line ≡ Ok None
unfolding meaning_of_words study_meaning
comment names line first others h is_comment =
    let test = eq-eqb (get_or first 0 0) 35 is_comment in
    by_words names line (first ∷ others) h
    ∙ ap (plan_or_study names (first ∷ others)) (cond-true _ (Err Empty) _ test)
    ∙ cond-true _ (Ok None) _ test
