use Rattle.host_arguments.proofs.MatchLemmas.{added, added_if_ok}
use Rattle.ospf_study.proofs.FormatOption.{of_program}
use Rattle.ospf_study.proofs.command_line.command.Goals as goal

pub returns : goal.returns
returns c =
    let forms = c.format_option.ensures.rule in
    let dump = added _ _ _ _ _ c.in_ok-arg.ensures c.in_ok-named_command.ensures c.dump_option.ensures.rule c.dump_option.ensures.local in
    let baseline = added _ _ _ _ _ c.in_ok-arg-2.ensures dump c.file_option.ensures.rule c.file_option.ensures.local in
    let names = added _ _ _ _ _ c.in_ok-arg-3.ensures baseline c.file_option-2.ensures.rule c.file_option-2.ensures.local in
    let keep_going = added _ _ _ _ _ c.in_ok-arg-4.ensures names c.flag_option.ensures.rule c.flag_option.ensures.local in
    let verbose = added _ _ _ _ _ c.in_ok-arg-5.ensures keep_going c.flag_option-2.ensures.rule c.flag_option-2.ensures.local in
    let format = added _ _ _ _ _ c.in_ok-arg-6.ensures verbose forms.1.1 c.format_option.ensures.local in
    let out = added _ _ _ _ _ c.in_ok-arg-7.ensures format c.file_option-3.ensures.rule c.file_option-3.ensures.local in
    of_program c.arg-8.result forms.0 forms.1.0
    (added_if_ok c.arg-8.result _ _ _ _ c.arg-8.ensures out c.study_words.ensures.rule c.study_words.ensures.local)
