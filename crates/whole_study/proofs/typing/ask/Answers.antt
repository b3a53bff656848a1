use Rattle.std.proofs.Common.{◌≡◌, Err, rules}
use Rattle.whole_study.specs.declared.fault.RunFault.TheVariants.{Write}
use Rattle.whole_study.proofs.RunEnds.{on_success}
use Rattle.whole_study.proofs.TypedBytes.{begun_none}
use Rattle.whole_study.proofs.typing.ask.Goals as goal

pub returns-in_err-write_and_flush-clause-begun : goal.returns-in_err-write_and_flush-clause-begun
returns-in_err-write_and_flush-clause-begun g c =
    let same : c.from_residual-in_err-write_and_flush.result ≡ Err Write = search rules in
    begun_none c.args.limit _ c.from_residual-in_err-write_and_flush.result same

pub returns-clause-prompt : goal.returns-clause-prompt
returns-clause-prompt g c = on_success c.read_line.result c.in_ok-write_and_flush.ensures.whole
