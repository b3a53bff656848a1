use Rattle.std.proofs.Common.{◌≡◌, Err, map, string_bytes, refl, rules}
use Rattle.clap.specs.Words.{fault_of}
use Rattle.host_arguments.proofs.MatchLemmas.{matches_by, no_fault_by}
use Rattle.host_arguments.specs.declared.fault.OptionsFault.TheVariants.{OutOfMemory}
use Rattle.ospf_study.proofs.FileOptions.{IsGiven-from_read}
use Rattle.ospf_study.proofs.FormatOption.{memory_refused, refused_of}
use Rattle.ospf_study.proofs.Refusals.{has_kind_by, refused_by}
use Rattle.ospf_study.specs.CommandLine.{ospf_study}
use Rattle.ospf_study.proofs.command_line.options.Goals as goal

pub returns-clause-given : goal.returns-clause-given
returns-clause-given c =
    let program = c.in_ok-command.ensures in (
      program.0,
      (
        program.1.0,
        IsGiven-from_read program.0 _ c.in_ok-matches.matches _
            (matches_by (ospf_study program.0) _ (map string_bytes c.args.words.now) c.in_ok-matches.matches program.1.1 c.in_ok-matches.ensures.matches)
            c.in_ok-named_files.ensures,
      ),
    )

pub returns-clause-accepted : goal.returns-clause-accepted
returns-clause-accepted c =
    let program = c.in_ok-command.ensures in (
      program.0,
      (
        program.1.0,
        no_fault_by (ospf_study program.0) _ (map string_bytes c.args.words.now) program.1.1 c.in_ok-matches.ensures.kinds refl,
      ),
    )

pub returns-in_err-matches-clause-refused : goal.returns-in_err-matches-clause-refused
returns-in_err-matches-clause-refused c =
    let words = map string_bytes c.args.words.now in
    let program = c.in_ok-command.ensures in
    refused_of c.from_residual-in_err-matches.result program.0 words program.1.0
    (refused_by (fault_of (ospf_study program.0) words) c.in_err-matches.field-0.0 c.from_residual-in_err-matches.result
    (has_kind_by (ospf_study program.0) _ words c.in_err-matches.field-0.0 program.1.1 c.in_err-matches.ensures.kinds refl)
    c.from_residual-in_err-matches.ensures.1)

pub returns-in_err-command-clause-refused : goal.returns-in_err-command-clause-refused
returns-in_err-command-clause-refused c =
    let same : c.from_residual.result ≡ Err OutOfMemory = search rules in
    memory_refused c.from_residual.result (map string_bytes c.args.words.now) same

pub returns-in_err-named_files-clause-refused : goal.returns-in_err-named_files-clause-refused
returns-in_err-named_files-clause-refused c =
    let same : c.from_residual-in_err-named_files.result ≡ Err OutOfMemory = search rules in
    memory_refused c.from_residual-in_err-named_files.result (map string_bytes c.args.words.now) same
