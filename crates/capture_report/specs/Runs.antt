-- A run over files, where their bytes are known.
use Rattle.std.specs.Prelude.{◌≡◌, ◌≢◌, ℕ, List, ◌∷◌, ◌++◌, length, map, Option, IfSome}
use Rattle.std.specs.List.{AllZip}
use Rattle.lsa_instances.specs.declared.keeping.FlushedLsas.{FlushedLsas}
use Rattle.capture_report.specs.declared.fault.RunFault.{RunFault}
use Rattle.capture_report.specs.declared.fault.RunFault.TheVariants.{Read, TooLarge, Refused, Join, Write, OutOfMemory}
use Rattle.network_files.specs.declared.fault.FileFault.TheVariants as files
use Rattle.network_files.specs.declared.parsed_file.ParsedFile.{ParsedFile}
use Rattle.network_files.specs.Dumps.{IsDump, IsJoinFault}
use Rattle.network_files.specs.ParsedFiles.{IsFileOf, IsRefusalOf}
use Rattle.lsdb_merge.specs.declared.fault.JoinFault.TheVariants as joins
use Rattle.host_io.specs.declared.watch.Watched.{Watched}
use Rattle.host_io.specs.Watched.{inner_of}
use Rattle.host_io.specs.WholeText.{IsLonger}

-- the bytes of each file, where they are known
abbrev pub known : {R : Type 0} → (R → Option (List ℕ)) → List (Watched R) → List (Option (List ℕ))
known remaining files = map (λ file. remaining (inner_of file)) files

-- the greatest length of a file, in bytes
abbrev pub longest_file : ℕ
longest_file = 536870912

-- each file contains this, in order, as far as their bytes are known
abbrev pub AreParsed : {A : Type 0} → List (Option (List ℕ)) → List (ParsedFile A) → Type 0
AreParsed known parsed = AllZip (λ bytes file. IfSome bytes (λ o. IsFileOf o file)) known parsed

-- ---- one file

-- why the file at this place is not read: a read failed, it is too long, it is refused, or memory ran out
abbrev pub IsFileEnd : (A : Type 0) → Option (List ℕ) → ℕ → RunFault → Type 0
IsFileEnd A bytes index (Read file) = file ≡ index
IsFileEnd A bytes index (TooLarge file) = (file ≡ index) × IsLonger bytes longest_file
IsFileEnd A bytes index (Refused file fault) =
    (file ≡ index) × ((fault ≢ files.OutOfMemory) × IfSome bytes (λ o. IsRefusalOf A o fault))
IsFileEnd A bytes index (Join fault) = ⊥
IsFileEnd A bytes index Write = ⊥
IsFileEnd A bytes index OutOfMemory = Unit {0}

-- ---- all files

-- the first file that is not read, after others that are
pub record IsInputEnd (A : Type 0) (known : List (Option (List ℕ))) (fault : RunFault) : Type 0 where
  pub front : List (Option (List ℕ))
  pub bytes : Option (List ℕ)
  pub rest : List (Option (List ℕ))
  pub split : known ≡ front ++ (bytes ∷ rest)
  pub parsed : List (ParsedFile A)
  pub before : AreParsed front parsed
  pub ended : IsFileEnd A bytes (length front) fault

-- ---- the database

-- memory ran out, or this is the first fault of the joining
abbrev pub IsDumpEnd : {A : Type 0} → FlushedLsas → List (ParsedFile A) → RunFault → Type 0
IsDumpEnd flushed parsed (Read file) = ⊥
IsDumpEnd flushed parsed (TooLarge file) = ⊥
IsDumpEnd flushed parsed (Refused file fault) = ⊥
IsDumpEnd flushed parsed (Join fault) = (fault ≢ joins.OutOfMemory) × IsJoinFault flushed parsed fault
IsDumpEnd flushed parsed Write = ⊥
IsDumpEnd flushed parsed OutOfMemory = Unit {0}

-- ---- the run

-- all files are read, and then this holds
abbrev pub AfterAll : (A : Type 0) → List (Option (List ℕ)) → (List (ParsedFile A) → Type 0) → Type 0
AfterAll A known P = (parsed : List (ParsedFile A)) × (AreParsed known parsed × P parsed)

-- a run ends with the first file that is not read, or since the files make no database, or as the dump is written
abbrev pub MayEndRun : (A : Type 0) → FlushedLsas → List (Option (List ℕ)) → RunFault → Type 0
MayEndRun A flushed known (Read file) = IsInputEnd A known (Read file)
MayEndRun A flushed known (TooLarge file) = IsInputEnd A known (TooLarge file)
MayEndRun A flushed known (Refused file fault) = IsInputEnd A known (Refused file fault)
MayEndRun A flushed known (Join fault) = AfterAll A known (λ parsed. IsDumpEnd flushed parsed (Join fault))
MayEndRun A flushed known Write = AfterAll A known (λ parsed. (dump : List ℕ) × IsDump flushed parsed dump)
MayEndRun A flushed known OutOfMemory = Unit {0}
