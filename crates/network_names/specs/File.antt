-- What a names file gives: the names of all lines, or the first fault.
use Rattle.std.specs.Prelude.{◌≡◌, ℕ, ◌+◌, ◌==◌, not, List, [], ◌∷◌, ◌++◌, Option, Some, None, IfSome, Result, Ok, Err, ok_or, if◌then◌else◌}
use Rattle.std.specs.List.{slice_split}
use Rattle.network_names.specs.Words.{Word, words}
use Rattle.text_words.specs.Addresses.{address_of}
use Rattle.network_names.specs.declared.fault.NamesError.{NamesError}
use Rattle.network_names.specs.declared.fault.NamesFaultKind.TheVariants.{BadAddress, MissingName, BadName, ReservedName, NameTaken}
use Rattle.network_names.specs.declared.names.Names.{Names}
use Rattle.network_names.specs.Fault.{FaultAt, fault_of}
use Rattle.network_names.specs.Names.{Named, AreNames, address_in, has_colon, is_name, reads_otherwise}

infixl 10 ◌>>=◌
abbrev pub ◌>>=◌ : {A B : Type 0} → Result A FaultAt → (A → Result B FaultAt) → Result B FaultAt
(Ok x) >>= f = f x
(Err fault) >>= f = Err fault

-- ---- one name

-- a name that stands for nothing yet is new; one that stands for this address is no fault
abbrev pub beside : ℕ → List Named → ℕ → Word → Option ℕ → Result (List Named) FaultAt
beside line all address name None = Ok (all ++ (name, address) ∷ [])
beside line all address name (Some other) = if other == address then Ok all else Err (line, NameTaken, name)

-- the names after one more of a line
unfoldable pub with_name : ℕ → List Named → ℕ → Word → Result (List Named) FaultAt
with_name line all address name =
    if not (is_name name) then Err (line, BadName, name)
    else if reads_otherwise name then Err (line, ReservedName, name)
    else beside line all address name (address_in all name)

-- ---- one line

-- the names after these of a line, from left to right
unfoldable pub with_names : ℕ → List Named → ℕ → List Word → Result (List Named) FaultAt
with_names line all address [] = Ok all
with_names line all address (name ∷ names) = with_name line all address name >>= λ more. with_names line more address names

-- one name or more follows the address
unfoldable pub with_entry : ℕ → List Named → Word → List Word → Result (List Named) FaultAt
with_entry line all first [] = ok_or (address_of first) (line, BadAddress, first) >>= λ address. Err (line, MissingName, first)
with_entry line all first (name ∷ names) = ok_or (address_of first) (line, BadAddress, first) >>= λ address. with_names line all address (name ∷ names)

-- a line without words means nothing, and neither does one whose first word has a `:`
unfoldable pub with_words : ℕ → List Named → List Word → Result (List Named) FaultAt
with_words line all [] = Ok all
with_words line all (first ∷ names) = if has_colon first then Ok all else with_entry line all first names

abbrev pub first_part : List Word → Word
first_part [] = []
first_part (part ∷ parts) = part

-- what stands before the first `#` (35)
abbrev pub before_comment : List ℕ → List ℕ
before_comment line = first_part (slice_split (λ byte. byte == 35) line)

abbrev pub with_line : ℕ → List Named → List ℕ → Result (List Named) FaultAt
with_line line all text = with_words line all (words (before_comment text))

-- ---- all lines

-- the names after these lines, the first of which has this number
unfoldable pub with_lines : ℕ → List Named → List (List ℕ) → Result (List Named) FaultAt
with_lines line all [] = Ok all
with_lines line all (text ∷ texts) = with_line line all text >>= λ more. with_lines (line + 1) more texts

-- the names of a file, from the first to the last; its lines end at line feeds (10)
unfoldable pub names_in : List ℕ → Result (List Named) FaultAt
names_in file = with_lines 1 [] (slice_split (λ byte. byte == 10) file)

-- ---- what functions return

-- the names are those of a definition that has no fault
pub record Taken {A : Type 0} (given : Result (List Named) FaultAt) (names : Names A) : Type 0 where
  pub all : List Named
  pub given_is : given ≡ Ok all
  pub are : AreNames all names

-- an error is the fault of the definition, or memory ran out
abbrev pub IsFaultOf : Result (List Named) FaultAt → NamesError → Type 0
IsFaultOf given error = IfSome (fault_of error) (λ fault. given ≡ Err fault)

-- names that were changed are those of the definition, or its fault is returned
abbrev pub Takes : {T A : Type 0} → Result T NamesError → Result (List Named) FaultAt → Names A → Type 0
Takes (Ok done) given names = Taken given names
Takes (Err error) given names = IsFaultOf given error

-- the same of names that are returned
abbrev pub Reads : {A : Type 0} → Result (Names A) NamesError → Result (List Named) FaultAt → Type 0
Reads (Ok names) given = Taken given names
Reads (Err error) given = IsFaultOf given error
