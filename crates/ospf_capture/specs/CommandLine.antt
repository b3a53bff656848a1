-- The command line of the program, as clap reads it.
use Rattle.std.specs.Prelude.{◌≡◌, ℕ, List, Some, bytes_eq, codes, map, nat_lt, true, option_map, if◌then◌else◌}
use Rattle.clap.specs.Words.{App, Rule, Text, new_rule, with_rule}
use Rattle.clap.specs.declared.builder.action.ArgAction.TheVariants.{Append, Set}
use Rattle.host_arguments.specs.Commands.{flag_rule, named, times_given, value_of, value_rule, values_of}
use Rattle.lsa_instances.specs.declared.keeping.FlushedLsas.{FlushedLsas}
use Rattle.lsa_instances.specs.declared.keeping.FlushedLsas.TheVariants.{Kept, LeftOut}
use Rattle.ospf_capture.specs.declared.arguments.Options.{Options}

-- the words `FILE..`, one at least
abbrev pub files_rule : Rule
files_rule = record (new_rule (codes "files")) { action = Some Append; value_names = 1; required = true }

-- `ospf-capture [--out DUMP] [--against LIST]... [--keep-flushed] FILE..`, and `--version`
abbrev pub ospf_capture : App
ospf_capture = with_rule
    (with_rule
    (with_rule (with_rule (named (codes "ospf-capture")) (value_rule (codes "out") Set)) (value_rule (codes "against") Append))
    (flag_rule (codes "keep-flushed")))
    files_rule

-- kept where the option is given
abbrev pub kept_where : ℕ → FlushedLsas
kept_where count = if nat_lt 0 count then Kept else LeftOut

-- each field has what clap finds for it in these words
pub record IsGiven (words : List Text) (o : Options) : Type 0 where
  pub out : option_map (λ name. name.now) o.out ≡ value_of ospf_capture words (codes "out")
  pub flushed : o.flushed ≡ kept_where (times_given ospf_capture words (codes "keep-flushed"))
  pub against : map (λ name. name.now) o.against.items ≡ values_of ospf_capture words (codes "against")
  pub files : map (λ name. name.now) o.files.items ≡ values_of ospf_capture words (codes "files")

-- ---- files

-- a dash alone is standard input, by the file that Linux gives for it
abbrev pub path_of : List ℕ → List ℕ
path_of name = if bytes_eq name (codes "-") then codes "/dev/stdin" else name
