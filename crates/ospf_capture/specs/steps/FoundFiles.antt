-- The files in what clap found.
use Rattle.std.specs.Prelude.{◌≡◌, codes, map, option_map}
use Rattle.clap.specs.Words.{count_of, first_value, rows_of}
use Rattle.clap.specs.declared.parser.matches.Found.{Found}
use Rattle.host_arguments.specs.Commands.{values_in}
use Rattle.ospf_capture.specs.CommandLine.{kept_where}
use Rattle.ospf_capture.specs.declared.arguments.Options.{Options}

-- each field has the values of its id in what clap found
pub record IsRead (found : Found) (o : Options) : Type 0 where
  pub out : option_map (λ name. name.now) o.out ≡ first_value found (codes "out")
  pub flushed : o.flushed ≡ kept_where (count_of (codes "keep-flushed") (rows_of found))
  pub against : map (λ name. name.now) o.against.items ≡ values_in found (codes "against")
  pub files : map (λ name. name.now) o.files.items ≡ values_in found (codes "files")
