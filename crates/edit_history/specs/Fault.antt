-- How the refusal of an edit is printed, and which one stands for an LSA that could not be made.
use Rattle.std.specs.Prelude.{ℕ, List, codes}
use Rattle.lsa_codec.specs.declared.fault.MakeFault.{MakeFault}
use Rattle.lsa_codec.specs.declared.fault.MakeFault.TheVariants as make
use Rattle.edit_history.specs.declared.fault.EditFault.{EditFault}
use Rattle.edit_history.specs.declared.fault.EditFault.TheVariants.{NoArea, NoRouter, NoLink, ZeroCost, SameRouter, NoNetwork, NoSummary, NoExternal, KeyTaken, TooLong, Full, HistoryFull, OutOfMemory, NotNeighbors, NoInterface, NotOnNetwork, UnclearEnd}

-- its code and its name
abbrev pub texts_of : EditFault → List ℕ × List ℕ
texts_of NoArea = (codes "E1", codes "NoArea")
texts_of NoRouter = (codes "E2", codes "NoRouter")
texts_of NoLink = (codes "E3", codes "NoLink")
texts_of ZeroCost = (codes "E4", codes "ZeroCost")
texts_of SameRouter = (codes "E5", codes "SameRouter")
texts_of NoNetwork = (codes "E6", codes "NoNetwork")
texts_of NoSummary = (codes "E7", codes "NoSummary")
texts_of NoExternal = (codes "E8", codes "NoExternal")
texts_of KeyTaken = (codes "E9", codes "KeyTaken")
texts_of TooLong = (codes "E10", codes "TooLong")
texts_of Full = (codes "E11", codes "Full")
texts_of HistoryFull = (codes "E12", codes "HistoryFull")
texts_of OutOfMemory = (codes "E13", codes "OutOfMemory")
texts_of NotNeighbors = (codes "E3", codes "NotNeighbors")
texts_of NoInterface = (codes "E3", codes "NoInterface")
texts_of NotOnNetwork = (codes "E3", codes "NotOnNetwork")
texts_of UnclearEnd = (codes "E15", codes "UnclearEnd")

abbrev pub code_of : EditFault → List ℕ
code_of fault = (texts_of fault).0

abbrev pub name_of : EditFault → List ℕ
name_of fault = (texts_of fault).1

-- the refusal for an LSA that could not be made
abbrev pub fault_of : MakeFault → EditFault
fault_of make.NoLink = NoLink
fault_of make.ZeroCost = ZeroCost
fault_of make.TooLong = TooLong
fault_of make.OutOfMemory = OutOfMemory
