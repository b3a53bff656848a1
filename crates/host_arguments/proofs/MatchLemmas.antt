-- What clap found is what its definition gives on the words.
use Rattle.std.proofs.Common.{◌≡◌, List, [], false, true, IfOk, Result, Ok, Err, ap, subst, ◌∙◌}
use Rattle.std.specs.Prelude.{unwrap_or}
use Rattle.clap.specs.Walk.{Text, all_of, count_of, first_of, rows_of}
use Rattle.clap.specs.Matches.{first_value, found_of}
use Rattle.clap.specs.Simple.{App, HasMatchesOf, is_simple}
use Rattle.clap.specs.Words.{AddsArg, Rule, app_of, fault_of, is_simple_and_free, rule_of, with_rule}
use Rattle.clap.specs.declared.builder.arg.Arg.{Arg}
use Rattle.clap.specs.declared.builder.command.Command.{Command}
use Rattle.clap.proofs.WalkLemmas.{first_value-rows, raw_values-rows}
use Rattle.clap.specs.declared.parser.matches.ArgMatches.{ArgMatches}
use Rattle.host_arguments.specs.Commands.{times_given, value_of, values_in, values_of}

pub value_of-found : (app : App) (words : List Text) (m : ArgMatches) (name : Text) → is_simple app ≡ true → HasMatchesOf app words m
    → first_value (found_of m) name ≡ value_of app words name
unfolding value_of
value_of-found app words m name simple has = first_value-rows (found_of m) name ∙ ap (first_of name) (has simple).0

pub values_of-found : (app : App) (words : List Text) (m : ArgMatches) (name : Text) → is_simple app ≡ true → HasMatchesOf app words m
    → values_in (found_of m) name ≡ values_of app words name
unfolding values_of
values_of-found app words m name simple has =
    ap (λ found. unwrap_or found []) (raw_values-rows (found_of m) name ∙ ap (all_of name) (has simple).0)

pub times_given-found : (app : App) (words : List Text) (m : ArgMatches) (name : Text) → is_simple app ≡ true → HasMatchesOf app words m
    → count_of name (rows_of (found_of m)) ≡ times_given app words name
unfolding times_given
times_given-found app words m name simple has = ap (count_of name) (has simple).0

-- what clap finds for a command, and refuses, where the command is by its definition

pub matches_by : (app command : App) (words : List Text) (m : ArgMatches) → command ≡ app → HasMatchesOf command words m → HasMatchesOf app words m
matches_by app command words m is has = subst (λ (a : App). HasMatchesOf a words m) is has

pub no_fault_by : (app command : App) (words : List Text) → command ≡ app
    → (is_simple_and_free command ≡ true → fault_of command words ≡ []) → is_simple_and_free app ≡ true → fault_of app words ≡ []
no_fault_by app command words is none = subst (λ (a : App). is_simple_and_free a ≡ true → fault_of a words ≡ []) is none

-- a command with one more argument, where its definition has one more rule

pub added : (old new : Command) (a : Arg) (app : App) (rule : Rule) → AddsArg old a new → app_of old ≡ app → rule_of a ≡ rule → a.global ≡ false
    → app_of new ≡ with_rule app rule
added old new a app rule adds is by local = adds.shape local ∙ ap (λ (x : App). with_rule x (rule_of a)) is ∙ ap (with_rule app) by

pub added_if_ok : {E : Type 0} (r : Result Command E) (old : Command) (a : Arg) (app : App) (rule : Rule) → IfOk r (λ new. AddsArg old a new)
    → app_of old ≡ app → rule_of a ≡ rule → a.global ≡ false → IfOk r (λ new. app_of new ≡ with_rule app rule)
added_if_ok (Ok new) old a app rule adds is by local = added old new a app rule adds is by local
added_if_ok (Err e) old a app rule adds is by local = tt
