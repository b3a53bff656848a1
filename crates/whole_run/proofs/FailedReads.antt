-- Whether a reader has failed, by what the read of the dump and the script that is carried out answer.
use Rattle.std.proofs.Common.{◌≡◌, Bool, true, false, Result, Ok, Err, refl, ◌↔◌}
use Rattle.std.specs.Prelude.{◌||◌}
use Rattle.whole_run.specs.declared.fault.RunFault.{RunFault}
use Rattle.whole_run.specs.declared.fault.RunFault.TheVariants.{Read}

abbrev went_on : (T : Type 0) → T → Result T RunFault
went_on T value = Ok value

abbrev ended : (T : Type 0) → RunFault → Result T RunFault
ended T fault = Err fault

goes_on : (T : Type 0) (value : T) (fault : RunFault) → went_on T value ≡ ended T fault → ⊥
goes_on T value fault h = absurd cc

-- the dump was read, so that a reader has failed where the one of the script has
pub read_by_either : (T V : Type 0) (value : T) (result : Result V RunFault) (dump script : Bool)
    → (went_on T value ≡ ended T Read) ↔ (dump ≡ true) → (result ≡ ended V Read) ↔ (script ≡ true)
    → (result ≡ ended V Read) ↔ ((dump || script) ≡ true)
read_by_either T V value result true script whole ends = absurd (goes_on T value Read (whole.1 refl))
read_by_either T V value result false script whole ends = ends
