-- What clap found is what its definition gives on the words.
use Rattle.std.proofs.Common.{List, refl, ap, ◌∙◌}
use Rattle.std.specs.Prelude.{nat_lt}
use Rattle.clap.specs.Walk.{Text}
use Rattle.clap.specs.Matches.{found_of}
use Rattle.clap.specs.Simple.{HasMatchesOf}
use Rattle.clap.specs.declared.builder.value_parser.ValueParser.{ValueParser}
use Rattle.clap.specs.declared.parser.matches.ArgMatches.{ArgMatches}
use Rattle.host_arguments.proofs.MatchLemmas.{times_given-found, value_of-found, values_of-found}
use Rattle.ospf_study.specs.declared.arguments.Options.{Options}
use Rattle.ospf_study.specs.CommandLine.{IsGiven, ospf_study}
use Rattle.ospf_study.specs.steps.FoundFiles.{IsRead}

pub IsGiven-from_read : (formats : ValueParser) (words : List Text) (m : ArgMatches) (o : Options) → HasMatchesOf (ospf_study formats) words m
    → IsRead (found_of m) o → IsGiven (ospf_study formats) words o
IsGiven-from_read formats words m o has read = record {
  dump = read.dump ∙ value_of-found (ospf_study formats) words m _ refl has;
  baseline = read.baseline ∙ value_of-found (ospf_study formats) words m _ refl has;
  names = read.names ∙ value_of-found (ospf_study formats) words m _ refl has;
  keep_going = read.keep_going ∙ ap (nat_lt 0) (times_given-found (ospf_study formats) words m _ refl has);
  verbose = read.verbose ∙ ap (nat_lt 0) (times_given-found (ospf_study formats) words m _ refl has);
  format = read.format ∙ value_of-found (ospf_study formats) words m _ refl has;
  out = read.out ∙ value_of-found (ospf_study formats) words m _ refl has;
  studies = read.studies ∙ values_of-found (ospf_study formats) words m _ refl has;
}
