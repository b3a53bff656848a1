-- What a function that reads a part of a dump returns.
use Rattle.std.specs.Prelude.{◌≡◌, Result, Ok, Err, IsOk}
use Rattle.lsdb.specs.declared.cursor.Cursor.{Cursor}
use Rattle.lsdb.specs.declared.fault.DumpFault.{DumpFault}
use Rattle.lsdb.specs.declared.fault.ReadError.{ReadError}
use Rattle.lsdb.specs.declared.fault.ReadError.TheVariants as errors
use Rattle.lsdb.specs.Loading.{At, no_memory}

-- a position in a dump, without the location of its bytes in memory
abbrev pub at_of : Cursor → At
at_of at = record { offset = at.offset; rest = at.rest.now }

-- what a function that takes no memory returned, seen by view, is what reading gives
abbrev pub Reads : {X Y : Type 0} → (X → Y) → Result X DumpFault → Result Y DumpFault → Type 0
Reads view (Ok x) read = read ≡ Ok (view x)
Reads view (Err f) read = read ≡ Err f

-- reading ended for want of memory, or with the fault that is reported
abbrev pub Fails : {Y : Type 0} → ReadError → Result Y DumpFault → Type 0
Fails errors.Memory read = Unit {0}
Fails (errors.Fault f) read = read ≡ Err f

-- what a function returned, seen by view, is what reading gives, unless memory ran out
abbrev pub Gives : {X Y : Type 0} → (X → Y) → Result X ReadError → Result Y DumpFault → Type 0
Gives view (Ok x) read = read ≡ Ok (view x)
Gives view (Err e) read = Fails e read

-- memory ran out only after a front without fault
abbrev pub IsWantAfter : {Z : Type 0} → Result Z DumpFault → ReadError → Type 0
IsWantAfter front errors.Memory = IsOk front
IsWantAfter front (errors.Fault f) = Unit {0}

abbrev pub IsMemoryAfter : {X Z : Type 0} → Result Z DumpFault → Result X ReadError → Type 0
IsMemoryAfter front (Ok x) = Unit {0}
IsMemoryAfter front (Err e) = IsWantAfter front e

-- the fault that is reported of a failed reading
abbrev pub reported_fault : ReadError → DumpFault
reported_fault errors.Memory = no_memory
reported_fault (errors.Fault f) = f
