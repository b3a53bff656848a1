-- The files in what clap found.
use Rattle.std.specs.Prelude.{◌≡◌, codes, option_map}
use Rattle.clap.specs.Words.{first_value}
use Rattle.clap.specs.declared.parser.matches.Found.{Found}
use Rattle.ospf_plan.specs.declared.arguments.Options.{Options}

-- each field has the value of its option in what clap found
pub record IsRead (found : Found) (o : Options) : Type 0 where
  pub dump : option_map (λ name. name.now) o.dump ≡ first_value found (codes "dump")
  pub script : option_map (λ name. name.now) o.script ≡ first_value found (codes "script")
  pub out : option_map (λ name. name.now) o.out ≡ first_value found (codes "out")
  pub save : option_map (λ name. name.now) o.save ≡ first_value found (codes "save")
