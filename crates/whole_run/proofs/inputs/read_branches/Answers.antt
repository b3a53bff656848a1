use Rattle.host_io.specs.Watched.{inner_of}
use Rattle.host_io.specs.WholeText.{IsAll}
use Rattle.std.proofs.Common.{ap, Err}
use Rattle.whole_run.proofs.KnownInputs.{known_first}
use Rattle.whole_run.proofs.OpeningLemmas.{if_too_long}
use Rattle.whole_run.proofs.inputs.read_branches.Goals as goal

pub returns-in-Err-TooLarge-clause-refused : goal.returns-in-Err-TooLarge-clause-refused
returns-in-Err-TooLarge-clause-refused g c = (λ e. absurd cc, if_too_long _ (c.in-Err-TooLarge.ensures.too_large (ap Err c.in-Err-TooLarge.field-0-is)))

pub returns-clause-refused : goal.returns-clause-refused
returns-clause-refused g c =
    let all : IsAll (g.R.Read.remaining (inner_of c.args.dump.now)) c.as_slice.result.now = rw c.as_slice.ensures.value c.in-Ok.ensures.whole in
    c.open_fault.ensures.end _ (known_first _ _ _ all c.in-Err.ensures.loads.fault)
