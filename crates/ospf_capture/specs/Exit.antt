-- Why the file of the dump is not replaced.
use Rattle.std.specs.Prelude.{◌≡◌, ℕ, List}
use Rattle.std.specs.Borrow.{Bor}
use Rattle.capture_lines.specs.declared.fault.ExitFault.{ExitFault}
use Rattle.capture_lines.specs.declared.fault.ExitFault.TheVariants.{File}
use Rattle.capture_lines.specs.declared.fault.FileEnd.TheVariants.{Open, Write}
use Rattle.host_io.specs.declared.fault.ReplaceFault.{ReplaceFault}
use Rattle.host_io.specs.declared.fault.ReplaceFault.TheVariants as replace

-- a file that was not replaced could not be opened, or not be written
abbrev pub not_replaced : Bor (List ℕ) → ReplaceFault → ExitFault
not_replaced name replace.Open = File name Open
not_replaced name replace.Write = File name Write

-- why a file of this name was not replaced
abbrev pub IsNotReplaced : Bor (List ℕ) → ExitFault → Type 0
IsNotReplaced name fault = (why : ReplaceFault) × (fault ≡ not_replaced name why)
