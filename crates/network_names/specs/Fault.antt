-- The faults of names files, and how they are printed.
use Rattle.std.specs.Prelude.{ℕ, List, Option, Some, None, codes}
use Rattle.text_words.specs.Words.{Word}
use Rattle.network_names.specs.declared.fault.NamesError.{NamesError}
use Rattle.network_names.specs.declared.fault.NamesError.TheVariants.{Fault, OutOfMemory}
use Rattle.network_names.specs.declared.fault.NamesFaultKind.{NamesFaultKind}
use Rattle.network_names.specs.declared.fault.NamesFaultKind.TheVariants.{BadAddress, MissingName, BadName, ReservedName, NameTaken}

-- its code
abbrev pub code_of : NamesFaultKind → List ℕ
code_of BadAddress = codes "H1"
code_of MissingName = codes "H2"
code_of BadName = codes "H3"
code_of ReservedName = codes "H4"
code_of NameTaken = codes "H5"

-- its name
abbrev pub name_of : NamesFaultKind → List ℕ
name_of BadAddress = codes "BadAddress"
name_of MissingName = codes "MissingName"
name_of BadName = codes "BadName"
name_of ReservedName = codes "ReservedName"
name_of NameTaken = codes "NameTaken"

-- a fault: the line, what is wrong, and the word
abbrev pub FaultAt : Type 0
FaultAt = ℕ × NamesFaultKind × Word

-- the fault of an error; memory that ran out is none
abbrev pub fault_of : NamesError → Option FaultAt
fault_of (Fault fault) = Some (fault.line, fault.kind, fault.word.now)
fault_of OutOfMemory = None
