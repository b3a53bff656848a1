use Rattle.ospf_study.proofs.EndNames.{named_ended}
use Rattle.ospf_study.proofs.files.run_files.Goals as goal

pub returns : goal.returns
returns c = named_ended c.args.options.now c.if-is_standard_input.end c.end_run.result c.end_run.ensures.fault
