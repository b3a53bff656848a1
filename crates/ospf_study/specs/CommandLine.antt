-- The command line of the program, as clap reads it.
use Rattle.std.specs.Prelude.{◌≡◌, ◌↔◌, ◌⊎◌, List, [], ◌∷◌, Option, Some, codes, is_some, map, nat_lt, true, option_map}
use Rattle.clap.specs.Words.{App, Rule, Text, new_rule, with_rule}
use Rattle.clap.specs.declared.builder.value_parser.ValueParser.{ValueParser}
use Rattle.clap.specs.declared.builder.value_parser.ValueParser.TheVariants as parser
use Rattle.clap.specs.declared.builder.action.ArgAction.TheVariants.{Append, Set}
use Rattle.host_arguments.specs.Commands.{flag_rule, named, times_given, value_of, value_rule, values_of}
use Rattle.study_session.specs.declared.format.Format.TheVariants.{Json}
use Rattle.whole_study.specs.declared.running.Manner.{Manner}
use Rattle.ospf_study.specs.declared.arguments.Options.{Options}

-- the option `--dump DUMP`, which has to be given
abbrev pub dump_rule : Rule
dump_rule = record (value_rule (codes "dump") Set) { required = true }

-- the words for the form of the answers are taken, and no others
abbrev pub AreFormats : ValueParser → Type 0
AreFormats (parser.Names words) = map (λ word. word.now) words.now ≡ codes "text" ∷ codes "json" ∷ []
AreFormats _ = ⊥

-- the option `--format FORMAT`
abbrev pub format_rule : ValueParser → Rule
format_rule formats = record (value_rule (codes "format") Set) { parser = Some formats }

abbrev pub IsFormatRule : Rule → Type 0
IsFormatRule rule = (formats : ValueParser) × (AreFormats formats × (rule ≡ format_rule formats))

-- the words `STUDY..`
abbrev pub studies_rule : Rule
studies_rule = record (new_rule (codes "studies")) { action = Some Append; value_names = 1 }

-- `ospf-study --dump DUMP [--baseline DUMP] [--names FILE] [--keep-going] [--verbose] [--format FORMAT] [--out DUMP] [STUDY..]`, and `--version`
abbrev pub ospf_study : ValueParser → App
ospf_study formats = with_rule
    (with_rule
    (with_rule
    (with_rule
    (with_rule
    (with_rule
    (with_rule (with_rule (named (codes "ospf-study")) dump_rule) (value_rule (codes "baseline") Set))
    (value_rule (codes "names") Set))
    (flag_rule (codes "keep-going")))
    (flag_rule (codes "verbose")))
    (format_rule formats))
    (value_rule (codes "out") Set))
    studies_rule

-- this holds of the command line of the program
abbrev pub OfProgram : (App → Type 0) → Type 0
OfProgram holds = (formats : ValueParser) × (AreFormats formats × holds (ospf_study formats))

-- each field has what clap finds for it in these words
pub record IsGiven (app : App) (words : List Text) (o : Options) : Type 0 where
  pub dump : option_map (λ name. name.now) o.dump ≡ value_of app words (codes "dump")
  pub baseline : option_map (λ name. name.now) o.baseline ≡ value_of app words (codes "baseline")
  pub names : option_map (λ name. name.now) o.names ≡ value_of app words (codes "names")
  pub keep_going : o.keep_going ≡ nat_lt 0 (times_given app words (codes "keep-going"))
  pub verbose : o.verbose ≡ nat_lt 0 (times_given app words (codes "verbose"))
  pub format : option_map (λ word. word.now) o.format ≡ value_of app words (codes "format")
  pub out : option_map (λ name. name.now) o.out ≡ value_of app words (codes "out")
  pub studies : map (λ name. name.now) o.studies.items ≡ values_of app words (codes "studies")

-- the only study is standard input: none is named, or `-` alone
abbrev pub IsStandardInput : List Text → Type 0
IsStandardInput studies = (studies ≡ []) ⊎ (studies ≡ codes "-" ∷ [])

-- answers are documents where the option says so, else texts
abbrev pub IsJson : Option Text → Type 0
IsJson word = word ≡ Some (codes "json")

-- a run as the options ask for it: the dump that it leaves is wanted where a file for it is named
pub record IsMannerOf (o : Options) (manner : Manner) : Type 0 where
  pub keep_going : manner.keep_going ≡ o.keep_going
  pub dump : manner.wants_dump ≡ is_some o.out
  pub verbose : manner.is_verbose ≡ o.verbose
  pub format : (manner.format ≡ Json) ↔ IsJson (option_map (λ word. word.now) o.format)
