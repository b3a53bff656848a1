-- The faults of lines, and how they are printed.
use Rattle.std.specs.Prelude.{◌≡◌, ℕ, List, Option, Some, None, IfSome, Result, Ok, Err, codes}
use Rattle.text_words.specs.Words.{Word}
use Rattle.edit_script.specs.declared.fault.ScriptFault.{ScriptFault}
use Rattle.edit_script.specs.declared.fault.ScriptFault.TheVariants as script
use Rattle.edit_script.specs.Fault.{code_of as script_code, name_of as script_name}
use Rattle.study_arguments.specs.declared.fault.Fault.{Fault}
use Rattle.study_arguments.specs.declared.fault.FaultKind.{FaultKind}
use Rattle.study_arguments.specs.declared.fault.FaultKind.TheVariants.{Script, BadWord}
use Rattle.study_arguments.specs.declared.fault.ParseError.{ParseError}
use Rattle.study_arguments.specs.declared.fault.ParseError.TheVariants as error

-- its code
abbrev pub code_of : FaultKind → List ℕ
code_of (Script fault) = script_code fault
code_of BadWord = codes "S9"

-- its name
abbrev pub name_of : FaultKind → List ℕ
name_of (Script fault) = script_name fault
name_of BadWord = codes "BadWord"

-- a fault: what is wrong, and the word
abbrev pub FaultAt : Type 0
FaultAt = FaultKind × Word

abbrev pub fault_at : Fault → FaultAt
fault_at fault = (fault.kind, fault.word.now)

abbrev pub unknown_word : Word → FaultAt
unknown_word word = (Script script.UnknownWord, word)

abbrev pub missing_word : Word → FaultAt
missing_word word = (Script script.MissingWord, word)

abbrev pub extra_word : Word → FaultAt
extra_word word = (Script script.ExtraWord, word)

abbrev pub bad_branch : Word → FaultAt
bad_branch word = (Script script.BadBranch, word)

abbrev pub bad_word : Word → FaultAt
bad_word word = (BadWord, word)

-- ---- what functions return

infixl 10 ◌>>=◌
abbrev pub ◌>>=◌ : {A B E : Type 0} → Result A E → (A → Result B E) → Result B E
(Ok x) >>= f = f x
(Err fault) >>= f = Err fault

-- what is made of what is read
abbrev pub made : {A B E : Type 0} → (A → B) → Result A E → Result B E
made make given = given >>= λ x. Ok (make x)

-- a fault that lines of `ospf-plan` have, too
abbrev pub of_script : {A : Type 0} → Result A ScriptFault → Result A FaultKind
of_script (Ok x) = Ok x
of_script (Err fault) = Err (Script fault)

-- what is wrong with a word, and the word
abbrev pub at_word : {A : Type 0} → Word → Result A FaultKind → Result A FaultAt
at_word word (Ok x) = Ok x
at_word word (Err kind) = Err (kind, word)

-- a function's result, by its view, is what the definition gives
abbrev pub Gives : {X Y : Type 0} → (X → Y) → Result X Fault → Result Y FaultAt → Type 0
Gives view (Ok x) given = given ≡ Ok (view x)
Gives view (Err fault) given = given ≡ Err (fault_at fault)

-- the same of a result without references
abbrev pub Is : {X : Type 0} → Result X Fault → Result X FaultAt → Type 0
Is (Ok x) given = given ≡ Ok x
Is (Err fault) given = given ≡ Err (fault_at fault)

-- the fault of an error; memory that ran out is none
abbrev pub fault_of : ParseError → Option FaultAt
fault_of (error.Fault fault) = Some (fault_at fault)
fault_of error.OutOfMemory = None

-- an error is the fault of the definition, or memory ran out
abbrev pub IsFaultOf : {Y : Type 0} → Result Y FaultAt → ParseError → Type 0
IsFaultOf given failure = IfSome (fault_of failure) (λ fault. given ≡ Err fault)

-- a result that takes memory, by its view, is what the definition gives
abbrev pub Reads : {X Y : Type 0} → (X → Y) → Result X ParseError → Result Y FaultAt → Type 0
Reads view (Ok x) given = given ≡ Ok (view x)
Reads view (Err failure) given = IsFaultOf given failure
