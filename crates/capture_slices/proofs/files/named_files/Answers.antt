use Rattle.capture_slices.proofs.GivenLists.{names_end}
use Rattle.capture_slices.proofs.files.named_files.Goals as goal

pub returns-in_err-name-clause-fault : goal.returns-in_err-name-clause-fault
returns-in_err-name-clause-fault g c =
    names_end (λ file. file.name.now) c.args.given.now c.loop-file.file-index _ c.loop-file-test.true c.from_residual.result c.in_err-name.field-0.0
    c.from_residual.ensures.1 c.in_err-name.ensures.fault
