-- Why words give no options, and the exit status then.
use Rattle.std.specs.Prelude.{◌≡◌, ◌≢◌, ℕ}
use Rattle.clap.specs.Words.{kind_of, IsAmong, Kinds}
use Rattle.clap.specs.declared.error.Error.{Error}
use Rattle.clap.specs.declared.error.kind.ErrorKind.{ErrorKind}
use Rattle.clap.specs.declared.error.kind.ErrorKind.TheVariants as kind
use Rattle.host_arguments.specs.declared.fault.OptionsFault.{OptionsFault}
use Rattle.host_arguments.specs.declared.fault.OptionsFault.TheVariants.{Refused, NotText, OutOfMemory}

-- an error of clap stays as it is, unless memory ran out
abbrev pub IsFaultOf : Error → OptionsFault → Type 0
IsFaultOf error (Refused refusal) = (refusal ≡ error) × (kind_of error ≢ kind.OutOfMemory)
IsFaultOf error NotText = ⊥
IsFaultOf error OutOfMemory = kind_of error ≡ kind.OutOfMemory

-- the words are refused for one of these kinds of error, and memory did not run out
abbrev pub IsRefusal : Kinds → OptionsFault → Type 0
IsRefusal kinds (Refused error) = IsAmong (kind_of error) kinds × (kind_of error ≢ kind.OutOfMemory)
IsRefusal kinds NotText = ⊥
IsRefusal kinds OutOfMemory = Unit {0}

-- why the words are not available
abbrev pub IsWordFault : OptionsFault → Type 0
IsWordFault (Refused error) = ⊥
IsWordFault NotText = Unit {0}
IsWordFault OutOfMemory = Unit {0}

-- 0 for help and the version, 2 for words that are refused
abbrev pub shown_status : ErrorKind → ℕ
shown_status kind.DisplayHelp = 0
shown_status kind.DisplayVersion = 0
shown_status _ = 2

-- as what is shown, 2 where a word is no text, and 5 where memory ran out
abbrev pub options_status : OptionsFault → ℕ
options_status (Refused error) = shown_status (kind_of error)
options_status NotText = 2
options_status OutOfMemory = 5
