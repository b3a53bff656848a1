-- The line of a run of a study that ended early.
use Rattle.std.specs.Prelude.{ℕ, List, ◌++◌, codes}
use Rattle.lsdb.specs.declared.fault.DumpFault.{DumpFault}
use Rattle.lsdb.specs.Faults.{fault_text as dump_fault_text}
use Rattle.whole_study.specs.Refusals.{names_text}
use Rattle.whole_study.specs.declared.fault.RunFault.{RunFault}
use Rattle.whole_study.specs.declared.fault.RunFault.TheVariants.{Dump, Baseline, Names, Read, Write, TooLarge, OutOfMemory}

-- `dump: L4 TrailingBytes at 99`
abbrev pub dump_line : List ℕ → DumpFault → List ℕ
dump_line what fault = what ++ codes ": " ++ dump_fault_text fault ++ codes "\n"

-- the line for a run that ended early, as `ospf-study` has it on standard error; a write to memory fails for want of it
abbrev pub end_text : {A : Type 0} → RunFault A → List ℕ
end_text (Dump fault) = dump_line (codes "dump") fault
end_text (Baseline fault) = dump_line (codes "baseline") fault
end_text (Names refusal) = names_text (codes "names") refusal
end_text Read = codes "file: Read\n"
end_text Write = codes "memory: OutOfMemory\n"
end_text TooLarge = codes "file: TooLarge\n"
end_text OutOfMemory = codes "memory: OutOfMemory\n"
