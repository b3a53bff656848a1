-- Commands as clap reads them, and what it gives an argument of one for the words of a command line.
use Rattle.std.specs.Prelude.{ℕ, List, [], Option, Some, true, option_map, unwrap_or}
use Rattle.clap.specs.Words.{App, Rule, Text, all_of, count_of, first_of, matched_of, matches_of, new_app, new_rule, raw_values}
use Rattle.clap.specs.declared.builder.action.ArgAction.{ArgAction}
use Rattle.clap.specs.declared.builder.action.ArgAction.TheVariants.{Count}
use Rattle.clap.specs.declared.parser.matches.Found.{Found}

-- an option `--NAME VALUE` with this action
abbrev pub value_rule : Text → ArgAction → Rule
value_rule name action = record (new_rule name) { long = Some name; action = Some action; value_names = 1 }

-- an option `--NAME` without a value, once or more
abbrev pub flag_rule : Text → Rule
flag_rule name = record (new_rule name) { long = Some name; action = Some Count }

-- `--version` prints a version
abbrev pub with_version : App → App
with_version app = record app { top = record app.top { has_version = true } }

-- a command of this name, without arguments but for `--help` and `--version`
abbrev pub named : Text → App
named name = with_version (new_app name)

-- the value that clap gives an argument of the command for these words
unfoldable pub value_of : App → List Text → Text → Option Text
value_of app words name = first_of name (matches_of app words)

-- all values that it gives the argument, and none where it is not given
unfoldable pub values_of : App → List Text → Text → List Text
values_of app words name = unwrap_or (all_of name (matches_of app words)) []

-- how often the argument is given
unfoldable pub times_given : App → List Text → Text → ℕ
times_given app words name = count_of name (matches_of app words)

-- the values of an argument in what clap found, and none where it is not there
abbrev pub values_in : Found → Text → List Text
values_in found name = unwrap_or (option_map raw_values (matched_of found name)) []
