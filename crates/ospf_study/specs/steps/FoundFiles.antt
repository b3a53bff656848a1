-- The files in what clap found.
use Rattle.std.specs.Prelude.{◌≡◌, codes, map, nat_lt, option_map}
use Rattle.clap.specs.Words.{count_of, first_value, rows_of}
use Rattle.clap.specs.declared.parser.matches.Found.{Found}
use Rattle.host_arguments.specs.Commands.{values_in}
use Rattle.ospf_study.specs.declared.arguments.Options.{Options}

-- each field has the values of its id in what clap found
pub record IsRead (found : Found) (o : Options) : Type 0 where
  pub dump : option_map (λ name. name.now) o.dump ≡ first_value found (codes "dump")
  pub baseline : option_map (λ name. name.now) o.baseline ≡ first_value found (codes "baseline")
  pub names : option_map (λ name. name.now) o.names ≡ first_value found (codes "names")
  pub keep_going : o.keep_going ≡ nat_lt 0 (count_of (codes "keep-going") (rows_of found))
  pub verbose : o.verbose ≡ nat_lt 0 (count_of (codes "verbose") (rows_of found))
  pub format : option_map (λ word. word.now) o.format ≡ first_value found (codes "format")
  pub out : option_map (λ name. name.now) o.out ≡ first_value found (codes "out")
  pub studies : map (λ name. name.now) o.studies.items ≡ values_in found (codes "studies")
