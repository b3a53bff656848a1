-- What clap found is what its definition gives on the words.
use Rattle.std.proofs.Common.{List, refl, ◌∙◌}
use Rattle.clap.specs.Walk.{Text}
use Rattle.clap.specs.Matches.{found_of}
use Rattle.clap.specs.Simple.{HasMatchesOf}
use Rattle.clap.specs.declared.parser.matches.ArgMatches.{ArgMatches}
use Rattle.host_arguments.proofs.MatchLemmas.{value_of-found}
use Rattle.ospf_plan.specs.declared.arguments.Options.{Options}
use Rattle.ospf_plan.specs.CommandLine.{IsGiven, ospf_plan}
use Rattle.ospf_plan.specs.steps.FoundFiles.{IsRead}

pub IsGiven-from_read : (words : List Text) (m : ArgMatches) (o : Options) → HasMatchesOf ospf_plan words m → IsRead (found_of m) o → IsGiven words o
IsGiven-from_read words m o has read = record {
  dump = read.dump ∙ value_of-found ospf_plan words m _ refl has;
  script = read.script ∙ value_of-found ospf_plan words m _ refl has;
  out = read.out ∙ value_of-found ospf_plan words m _ refl has;
  save = read.save ∙ value_of-found ospf_plan words m _ refl has;
}
