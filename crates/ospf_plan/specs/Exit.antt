-- How the program ends after a fault: the status, and the line on standard error.
use Rattle.std.specs.Prelude.{◌≡◌, ℕ, List, ◌++◌, codes}
use Rattle.lsdb.specs.declared.fault.DumpFault.{DumpFault}
use Rattle.lsdb.specs.declared.fault.DumpFaultKind.{DumpFaultKind}
use Rattle.lsdb.specs.declared.fault.DumpFaultKind.TheVariants as kind
use Rattle.lsdb.specs.Faults.{fault_text}
use Rattle.whole_run.specs.declared.fault.RunFault.TheVariants as «run»
use Rattle.ospf_plan.specs.declared.fault.FileArg.{FileArg}
use Rattle.ospf_plan.specs.declared.fault.FileArg.TheVariants as file
use Rattle.ospf_plan.specs.declared.fault.ExitFault.{ExitFault}
use Rattle.ospf_plan.specs.declared.fault.ExitFault.TheVariants.{Run, Open}
use Rattle.host_io.specs.declared.fault.ReplaceFault.{ReplaceFault}
use Rattle.host_io.specs.declared.fault.ReplaceFault.TheVariants as replace

abbrev pub dump_status : DumpFaultKind → ℕ
dump_status kind.OutOfMemory = 5
dump_status _ = 3

-- 3 for a refused dump, 4 for files, 5 for want of memory
abbrev pub exit_status : ExitFault → ℕ
exit_status (Run (run.Dump fault)) = dump_status fault.kind
exit_status (Run run.OutOfMemory) = 5
exit_status (Run run.Read) = 4
exit_status (Run run.Write) = 4
exit_status (Run run.TooLarge) = 4
exit_status (Open file) = 4

-- `dump: L4 TrailingBytes at 99`
abbrev pub dump_line : DumpFaultKind → DumpFault → List ℕ
dump_line kind.OutOfMemory fault = codes "memory: OutOfMemory\n"
dump_line _ fault = codes "dump: " ++ fault_text fault ++ codes "\n"

-- the line, its end included
abbrev pub exit_text : ExitFault → List ℕ
exit_text (Run (run.Dump fault)) = dump_line fault.kind fault
exit_text (Run run.OutOfMemory) = codes "memory: OutOfMemory\n"
exit_text (Run run.Read) = codes "file: Read\n"
exit_text (Run run.Write) = codes "file: Write\n"
exit_text (Run run.TooLarge) = codes "file: TooLarge\n"
exit_text (Open file.Dump) = codes "file: Open dump\n"
exit_text (Open file.Script) = codes "file: Open script\n"
exit_text (Open file.Out) = codes "file: Open out\n"
exit_text (Open file.Save) = codes "file: Open save\n"

-- a file that was not replaced could not be opened, or not be written
abbrev pub not_replaced : ReplaceFault → FileArg → ExitFault
not_replaced replace.Open name = Open name
not_replaced replace.Write name = Run run.Write

-- why a file of this name was not replaced
abbrev pub IsNotReplaced : FileArg → ExitFault → Type 0
IsNotReplaced name fault = (why : ReplaceFault) × (fault ≡ not_replaced why name)
