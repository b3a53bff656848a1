use Rattle.std.proofs.lemmas.Result.{err_from_is_err_and}
use Rattle.capture_files.specs.Pcapng.{state_of}
use Rattle.capture_files.proofs.BlockWalk.{next_block, ran_out}
use Rattle.capture_files.proofs.pcapng.read_blocks.Goals as goal

pub walk-preserved : goal.walk-preserved
walk-preserved g c =
    let within = rw c.in-Some.is at c.in_ok-size.ensures.within in
    next_block c.args.file.now (state_of c.walk.reading) c.walk.offset (state_of c.read_block.new.reading) c.in-Some.size
    c.walk.invariant (rw c.in-Some.is at c.in_ok-size.ensures.block) within.1

pub returns-in_err-size-clause-memory : goal.returns-in_err-size-clause-memory
returns-in_err-size-clause-memory g c =
    let p = err_from_is_err_and c.from_residual.result c.from_residual.ensures.1 in
    rw (p.1, p.2)
    (λ e. ran_out c.args.file.now (state_of c.walk.reading) c.walk.offset c.requires c.walk.invariant (c.in_err-size.ensures.memory e))
