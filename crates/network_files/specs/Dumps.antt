-- The database that all files together make, and its dump.
use Rattle.std.specs.Prelude.{◌≡◌, ◌⊎◌, ℕ, List, Some}
use Rattle.std.specs.List.{flat_map}
use Rattle.lsa_instances.specs.declared.keeping.FlushedLsas.{FlushedLsas}
use Rattle.lsa_instances.specs.declared.observation.Observation.{Observation}
use Rattle.lsdb.specs.Lists.{IsDatabase, Lists}
use Rattle.lsdb.specs.Text.{text}
use Rattle.network_files.specs.declared.parsed_file.ParsedFile.{ParsedFile}
use Rattle.lsa_instances.specs.declared.area.AreaReport.{AreaReport}
use Rattle.lsdb_merge.specs.declared.fault.JoinFault.{JoinFault}
use Rattle.lsdb_merge.specs.declared.fault.JoinFault.TheVariants.{OutOfMemory}
use Rattle.lsdb_merge.specs.Joining.{Joining, joined}
use Rattle.lsdb_merge.specs.Limits.{fault_of}

-- what all files contain, one file after another
abbrev pub observations_of : {A : Type 0} → List (ParsedFile A) → List (Observation A)
observations_of files = flat_map (λ file. file.observations.items) files

abbrev pub areas_of : {A : Type 0} → List (ParsedFile A) → List AreaReport
areas_of files = flat_map (λ file. file.areas.items) files

-- the database, which is the joining of all that the files contain; flushed LSAs are left out or kept
pub record IsJoinedFrom {A : Type 0} (flushed : FlushedLsas) (files : List (ParsedFile A)) (database : Lists) : Type 0 where
  pub joining : Joining flushed (observations_of files) (areas_of files)
  pub sound : IsDatabase database
  pub lists : database ≡ joined joining

-- the dump of a database, which is the joining of all that the files contain; flushed LSAs are left out or kept
pub record IsDump {A : Type 0} (flushed : FlushedLsas) (files : List (ParsedFile A)) (dump : List ℕ) : Type 0 where
  pub joining : Joining flushed (observations_of files) (areas_of files)
  pub database : IsDatabase (joined joining)
  pub spelled : dump ≡ text (joined joining)

-- memory ran out, or this is the first fault of the joining
abbrev pub IsJoinFault : {A : Type 0} → FlushedLsas → List (ParsedFile A) → JoinFault → Type 0
IsJoinFault flushed files fault =
    (fault ≡ OutOfMemory) ⊎ ((joining : Joining flushed (observations_of files) (areas_of files))
    × (fault_of joining.newest (joined joining) ≡ Some fault))
