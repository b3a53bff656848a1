-- How the reading of each input may end.
use Rattle.std.specs.Prelude.{ℕ, ◌+◌, ◌-◌, List, length, Option, if◌then◌else◌}
use Rattle.lsdb.specs.Limits.{longest_session}
use Rattle.lsdb.specs.BaseLoading.{begins_session}
use Rattle.whole_run.specs.Inputs.{IsRefusedDump}
use Rattle.whole_run.specs.declared.fault.RunFault.{RunFault}
use Rattle.whole_run.specs.declared.fault.RunFault.TheVariants.{Dump, Read, Write, TooLarge, OutOfMemory}

-- the dump was refused for its first fault, or could not be read or stored
abbrev pub IsDumpEnd : Option (List ℕ) → RunFault → Type 0
IsDumpEnd known (Dump fault) = IsRefusedDump known fault
IsDumpEnd known Read = Unit {0}
IsDumpEnd known OutOfMemory = Unit {0}
IsDumpEnd known Write = ⊥
IsDumpEnd known TooLarge = ⊥

-- the script was too long, or could not be read or stored
abbrev pub IsScriptEnd : Type 0 → RunFault → Type 0
IsScriptEnd long (Dump fault) = ⊥
IsScriptEnd long Read = Unit {0}
IsScriptEnd long OutOfMemory = Unit {0}
IsScriptEnd long Write = ⊥
IsScriptEnd long TooLarge = long

-- the script was too long, or could not be read or stored, or the replies could not be written or stored
abbrev pub IsRunEnd : Type 0 → RunFault → Type 0
IsRunEnd long (Dump fault) = ⊥
IsRunEnd long Read = Unit {0}
IsRunEnd long OutOfMemory = Unit {0}
IsRunEnd long Write = Unit {0}
IsRunEnd long TooLarge = long

-- how many bytes are read at most after those that are too many for a dump without edits
abbrev pub most_after : List ℕ → ℕ
most_after front = if begins_session front then longest_session + 1 - length front else 0
