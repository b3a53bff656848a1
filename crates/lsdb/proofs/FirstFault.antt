-- The fault that is reported of a failed reading is the first, or want of memory.
use Rattle.std.proofs.Common.{◌≡◌, Result, Err, inl, inr, ap, ◌∙◌, sym}
use Rattle.lsdb.specs.declared.fault.DumpFault.{DumpFault}
use Rattle.lsdb.specs.declared.fault.ReadError.{ReadError}
use Rattle.lsdb.specs.declared.fault.ReadError.TheVariants as errors
use Rattle.lsdb.specs.Loading.{IsFirstFault}
use Rattle.lsdb.specs.steps.Reading.{Fails, reported_fault}

pub first_reported : {Y : Type 0} (error : ReadError) (fault : DumpFault) (answer : Result Y DumpFault) → fault ≡ reported_fault error
    → Fails error answer → IsFirstFault fault answer
first_reported {Y} errors.Memory fault answer is fails = inl is
first_reported {Y} (errors.Fault f) fault answer is fails = inr (fails ∙ ap (λ (d : DumpFault). Err d) (sym is))
