-- How a fault of a line is printed.
use Rattle.std.specs.Prelude.{ℕ, List, codes}
use Rattle.edit_script.specs.declared.fault.ScriptFault.{ScriptFault}
use Rattle.edit_script.specs.declared.fault.ScriptFault.TheVariants.{Empty, UnknownWord, MissingWord, ExtraWord, BadNumber, BadAddress, BadPrefix, BadBranch}

-- its code and its name
abbrev pub texts_of : ScriptFault → List ℕ × List ℕ
texts_of Empty = (codes "S1", codes "Empty")
texts_of UnknownWord = (codes "S2", codes "UnknownWord")
texts_of MissingWord = (codes "S3", codes "MissingWord")
texts_of ExtraWord = (codes "S4", codes "ExtraWord")
texts_of BadNumber = (codes "S5", codes "BadNumber")
texts_of BadAddress = (codes "S6", codes "BadAddress")
texts_of BadPrefix = (codes "S7", codes "BadPrefix")
texts_of BadBranch = (codes "S8", codes "BadBranch")

abbrev pub code_of : ScriptFault → List ℕ
code_of fault = (texts_of fault).0

abbrev pub name_of : ScriptFault → List ℕ
name_of fault = (texts_of fault).1
