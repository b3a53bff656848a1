-- Steps towards a run: the reading of all files.
use Rattle.std.specs.Prelude.{ℕ, List, Option}
use Rattle.capture_report.specs.declared.fault.RunFault.{RunFault}
use Rattle.capture_report.specs.declared.fault.RunFault.TheVariants.{Read, TooLarge, Refused, Join, Write, OutOfMemory}
use Rattle.capture_report.specs.Runs.{IsInputEnd}
use Rattle.network_files.specs.declared.fault.FileFault.{FileFault}
use Rattle.network_files.specs.declared.fault.FileFault.TheVariants as files

-- the end of a run at a file that is refused for this fault
abbrev pub refusal : ℕ → FileFault → RunFault
refusal index files.OutOfMemory = OutOfMemory
refusal index fault = Refused index fault

-- not all files can be read
abbrev pub IsReadEnd : (A : Type 0) → List (Option (List ℕ)) → RunFault → Type 0
IsReadEnd A known (Read file) = IsInputEnd A known (Read file)
IsReadEnd A known (TooLarge file) = IsInputEnd A known (TooLarge file)
IsReadEnd A known (Refused file fault) = IsInputEnd A known (Refused file fault)
IsReadEnd A known (Join fault) = ⊥
IsReadEnd A known Write = ⊥
IsReadEnd A known OutOfMemory = Unit {0}
