-- The command line of the program, as clap reads it.
use Rattle.std.specs.Prelude.{◌≡◌, List, codes, option_map}
use Rattle.clap.specs.Words.{App, Rule, Text, with_rule}
use Rattle.clap.specs.declared.builder.action.ArgAction.TheVariants.{Set}
use Rattle.host_arguments.specs.Commands.{named, value_of, value_rule}
use Rattle.ospf_plan.specs.declared.arguments.Options.{Options}

-- an option `--NAME FILE`
abbrev pub file_rule : Text → Rule
file_rule name = value_rule name Set

-- `ospf-plan [--dump FILE] [--script FILE] [--out FILE] [--save FILE]`, and `--version`
abbrev pub ospf_plan : App
ospf_plan = with_rule
    (with_rule
    (with_rule (with_rule (named (codes "ospf-plan")) (file_rule (codes "dump"))) (file_rule (codes "script")))
    (file_rule (codes "out")))
    (file_rule (codes "save"))

-- each field has the value that clap gives its option for these words
pub record IsGiven (words : List Text) (o : Options) : Type 0 where
  pub dump : option_map (λ name. name.now) o.dump ≡ value_of ospf_plan words (codes "dump")
  pub script : option_map (λ name. name.now) o.script ≡ value_of ospf_plan words (codes "script")
  pub out : option_map (λ name. name.now) o.out ≡ value_of ospf_plan words (codes "out")
  pub save : option_map (λ name. name.now) o.save ≡ value_of ospf_plan words (codes "save")
