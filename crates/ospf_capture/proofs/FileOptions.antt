-- What clap found is what its definition gives on the words.
use Rattle.std.proofs.Common.{List, refl, ap, ◌∙◌}
use Rattle.clap.specs.Walk.{Text}
use Rattle.clap.specs.Matches.{found_of}
use Rattle.clap.specs.Simple.{HasMatchesOf}
use Rattle.clap.specs.declared.parser.matches.ArgMatches.{ArgMatches}
use Rattle.host_arguments.proofs.MatchLemmas.{times_given-found, value_of-found, values_of-found}
use Rattle.ospf_capture.specs.declared.arguments.Options.{Options}
use Rattle.ospf_capture.specs.CommandLine.{IsGiven, kept_where, ospf_capture}
use Rattle.ospf_capture.specs.steps.FoundFiles.{IsRead}

pub IsGiven-from_read : (words : List Text) (m : ArgMatches) (o : Options) → HasMatchesOf ospf_capture words m → IsRead (found_of m) o → IsGiven words o
IsGiven-from_read words m o has read = record {
  out = read.out ∙ value_of-found ospf_capture words m _ refl has;
  flushed = read.flushed ∙ ap kept_where (times_given-found ospf_capture words m _ refl has);
  against = read.against ∙ values_of-found ospf_capture words m _ refl has;
  files = read.files ∙ values_of-found ospf_capture words m _ refl has;
}
