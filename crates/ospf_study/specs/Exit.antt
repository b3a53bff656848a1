-- How the program ends after a fault: the status, and the line on standard error.
use Rattle.std.specs.Prelude.{◌≡◌, ℕ, List, [], ◌++◌, Result, Ok, Err, codes, decimal, option_map, unwrap_or}
use Rattle.std.specs.Global.{Global}
use Rattle.lsdb.specs.declared.fault.DumpFault.{DumpFault}
use Rattle.lsdb.specs.declared.fault.DumpFaultKind.{DumpFaultKind}
use Rattle.lsdb.specs.declared.fault.DumpFaultKind.TheVariants as kind
use Rattle.lsdb.specs.Faults.{fault_text}
use Rattle.whole_study.specs.Refusals.{names_text}
use Rattle.whole_study.specs.declared.fault.RunFault.{RunFault}
use Rattle.whole_study.specs.declared.fault.RunFault.TheVariants as «run»
use Rattle.whole_study.specs.declared.running.Ended.{Ended}
use Rattle.ospf_study.specs.declared.arguments.Options.{Options}
use Rattle.ospf_study.specs.declared.fault.FileArg.{FileArg}
use Rattle.ospf_study.specs.declared.fault.FileArg.TheVariants as file
use Rattle.ospf_study.specs.declared.fault.ExitFault.{ExitFault}
use Rattle.ospf_study.specs.declared.fault.ExitFault.TheVariants.{Run, Open, OpenStudy}
use Rattle.host_io.specs.declared.fault.ReplaceFault.{ReplaceFault}
use Rattle.host_io.specs.declared.fault.ReplaceFault.TheVariants as replace

-- ---- status

abbrev pub dump_status : DumpFaultKind → ℕ
dump_status kind.OutOfMemory = 5
dump_status _ = 3

-- 3 for what is refused, 4 for files, 5 for want of memory
abbrev pub run_status : {A : Type 0} → RunFault A → ℕ
run_status (run.Dump fault) = dump_status fault.kind
run_status (run.Baseline fault) = dump_status fault.kind
run_status (run.Names refusal) = 3
run_status run.Read = 4
run_status run.Write = 4
run_status run.TooLarge = 4
run_status run.OutOfMemory = 5

abbrev pub exit_status : ExitFault → ℕ
exit_status (Run names fault) = run_status fault
exit_status (Open file) = 4
exit_status (OpenStudy name) = 4

-- ---- the line, its end included

abbrev pub dump_text_by : List ℕ → DumpFaultKind → DumpFault → List ℕ
dump_text_by what kind.OutOfMemory fault = codes "memory: OutOfMemory\n"
dump_text_by what _ fault = what ++ codes ": " ++ fault_text fault ++ codes "\n"

-- `dump: L4 TrailingBytes at 99`
abbrev pub dump_text : List ℕ → DumpFault → List ℕ
dump_text what fault = dump_text_by what fault.kind fault

abbrev pub run_text : {A : Type 0} → List ℕ → RunFault A → List ℕ
run_text names (run.Dump fault) = dump_text (codes "dump") fault
run_text names (run.Baseline fault) = dump_text (codes "baseline") fault
run_text names (run.Names refusal) = names_text names refusal
run_text names run.Read = codes "file: Read\n"
run_text names run.Write = codes "file: Write\n"
run_text names run.TooLarge = codes "file: TooLarge\n"
run_text names run.OutOfMemory = codes "memory: OutOfMemory\n"

abbrev pub open_text : FileArg → List ℕ
open_text file.Dump = codes "file: Open dump\n"
open_text file.Baseline = codes "file: Open baseline\n"
open_text file.Names = codes "file: Open names\n"
open_text file.Out = codes "file: Open out\n"

-- the study is named as it was given: `file: Open study r7.study`
abbrev pub open_study_text : List ℕ → List ℕ
open_study_text name = codes "file: Open study " ++ name ++ codes "\n"

abbrev pub exit_text : ExitFault → List ℕ
exit_text (Run names fault) = run_text names.now fault
exit_text (Open file) = open_text file
exit_text (OpenStudy name) = open_study_text name.now

-- ---- the file of the dump

-- a file that was not replaced could not be opened, or not be written
abbrev pub IsNotReplacedFor : ReplaceFault → ExitFault → Type 0
IsNotReplacedFor replace.Open fault = fault ≡ Open file.Out
IsNotReplacedFor replace.Write (Run names end) = end ≡ run.Write
IsNotReplacedFor replace.Write (Open other) = ⊥
IsNotReplacedFor replace.Write (OpenStudy name) = ⊥

abbrev pub IsNotReplaced : ExitFault → Type 0
IsNotReplaced fault = (why : ReplaceFault) × IsNotReplacedFor why fault

-- ---- the end of a run

-- the name of the names file, as it was given; without one, none
abbrev pub names_file : Options → List ℕ
names_file o = unwrap_or (option_map (λ name. name.now) o.names) []

-- a refused names file is reported by its name
abbrev pub IsNamedFor : {A : Type 0} → Options → List ℕ → RunFault A → Type 0
IsNamedFor o names (run.Names refusal) = names ≡ names_file o
IsNamedFor o names (run.Dump fault) = Unit {0}
IsNamedFor o names (run.Baseline fault) = Unit {0}
IsNamedFor o names run.Read = Unit {0}
IsNamedFor o names run.Write = Unit {0}
IsNamedFor o names run.TooLarge = Unit {0}
IsNamedFor o names run.OutOfMemory = Unit {0}

abbrev pub IsNamed : Options → ExitFault → Type 0
IsNamed o (Run names fault) = IsNamedFor o names.now fault
IsNamed o (Open file) = Unit {0}
IsNamed o (OpenStudy name) = Unit {0}

-- no run was begun: a file cannot be opened, or memory ran out
abbrev pub IsBeforeRun : ExitFault → Type 0
IsBeforeRun (Run names fault) = fault ≡ run.OutOfMemory
IsBeforeRun (Open file) = Unit {0}
IsBeforeRun (OpenStudy name) = Unit {0}

-- a run that ended early ends the program with its fault; after one that did not, the file of the dump was not replaced
abbrev pub IsEndFault : {A : Type 0} → Options → Result (Ended A) (RunFault Global) → ExitFault → Type 0
IsEndFault o (Ok ended) fault = IsNotReplaced fault
IsEndFault o (Err end) (Run names fault) = (names.now ≡ names_file o) × (fault ≡ end)
IsEndFault o (Err end) (Open file) = ⊥
IsEndFault o (Err end) (OpenStudy name) = ⊥
