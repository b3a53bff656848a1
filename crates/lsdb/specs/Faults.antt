-- How a fault of a dump is reported.
use Rattle.std.specs.Prelude.{List, [], ℕ, ◌++◌, codes, decimal}
use Rattle.lsa_codec.specs.declared.fault.LsaFault.{LsaFault}
use Rattle.lsa_codec.specs.declared.fault.LsaFault.TheVariants as lsa
use Rattle.lsdb.specs.declared.fault.DumpFault.{DumpFault}
use Rattle.lsdb.specs.declared.fault.DumpFaultKind.{DumpFaultKind}
use Rattle.lsdb.specs.declared.fault.DumpFaultKind.TheVariants.{BadMagic, BadVersion, Truncated, TrailingBytes, TooManyAreas, AreaOrder, BadAreaKind, TooManyLsas, Lsa, WrongSection, DuplicateLsa, BackboneStub, TooLarge, OutOfMemory, BadHistory}

-- the name of what is wrong with an LSA
abbrev pub lsa_fault_name : LsaFault → List ℕ
lsa_fault_name lsa.Truncated = codes "Lsa Truncated"
lsa_fault_name lsa.Length = codes "Lsa Length"
lsa_fault_name lsa.BadType = codes "Lsa BadType"
lsa_fault_name lsa.Body = codes "Lsa Body"
lsa_fault_name lsa.Checksum = codes "Lsa Checksum"
lsa_fault_name lsa.Mask = codes "Lsa Mask"
lsa_fault_name lsa.RouterId = codes "Lsa RouterId"
lsa_fault_name lsa.ZeroCost = codes "Lsa ZeroCost"
lsa_fault_name lsa.OutOfMemory = codes "Lsa OutOfMemory"

-- the code and the name of each kind
abbrev pub fault_texts : DumpFaultKind → List ℕ × List ℕ
fault_texts BadMagic = (codes "L1", codes "BadMagic")
fault_texts BadVersion = (codes "L2", codes "BadVersion")
fault_texts Truncated = (codes "L3", codes "Truncated")
fault_texts TrailingBytes = (codes "L4", codes "TrailingBytes")
fault_texts TooManyAreas = (codes "L5", codes "TooManyAreas")
fault_texts AreaOrder = (codes "L6", codes "AreaOrder")
fault_texts BadAreaKind = (codes "L7", codes "BadAreaKind")
fault_texts TooManyLsas = (codes "L8", codes "TooManyLsas")
fault_texts (Lsa fault) = (codes "L9", lsa_fault_name fault)
fault_texts WrongSection = (codes "L10", codes "WrongSection")
fault_texts DuplicateLsa = (codes "L11", codes "DuplicateLsa")
fault_texts BackboneStub = (codes "L12", codes "BackboneStub")
fault_texts TooLarge = (codes "L13", codes "TooLarge")
fault_texts OutOfMemory = (codes "L14", codes "OutOfMemory")
fault_texts (BadHistory index) = (codes "L15", codes "BadHistory")

abbrev pub fault_code : DumpFaultKind → List ℕ
fault_code kind = (fault_texts kind).0

abbrev pub fault_name : DumpFaultKind → List ℕ
fault_name kind = (fault_texts kind).1

-- which line of the history, counted from 0, after its word
abbrev pub fault_index : DumpFaultKind → List ℕ
fault_index (BadHistory index) = codes " " ++ decimal index
fault_index _ = []

-- as L4 TrailingBytes at 99, or L15 BadHistory 1 at 129
abbrev pub fault_text : DumpFault → List ℕ
fault_text fault =
    fault_code fault.kind ++ codes " " ++ fault_name fault.kind ++ fault_index fault.kind ++ codes " at " ++ decimal fault.offset
