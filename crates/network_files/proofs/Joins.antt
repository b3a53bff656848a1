-- What is joined of lists is joined of the files that contain them.
use Rattle.std.proofs.Common.{◌≡◌, ◌⊎◌, ◌∙◌, ap, subst, ℕ, List}
use Rattle.std.specs.Prelude.{Some}
use Rattle.lsa_instances.specs.declared.keeping.FlushedLsas.{FlushedLsas}
use Rattle.lsa_instances.specs.declared.observation.Observation.{Observation}
use Rattle.lsdb.specs.Lists.{Lists, IsDatabase}
use Rattle.lsdb.specs.Text.{text}
use Rattle.network_files.specs.declared.parsed_file.ParsedFile.{ParsedFile}
use Rattle.network_files.specs.Dumps.{observations_of, areas_of, IsDump, IsJoinFault, IsJoinedFrom}
use Rattle.lsa_instances.specs.declared.area.AreaReport.{AreaReport}
use Rattle.lsdb_merge.specs.declared.fault.JoinFault.{JoinFault}
use Rattle.lsdb_merge.specs.declared.fault.JoinFault.TheVariants.{OutOfMemory}
use Rattle.lsdb_merge.specs.Joining.{Joining, joined}
use Rattle.lsdb_merge.specs.Limits.{fault_of}

module _ {A : Type 0} (flushed : FlushedLsas) where
  -- the database is a joining of these
  abbrev pub IsJoined : Lists → List (Observation A) → List AreaReport → Type 0
  IsJoined db parsed areas = (joining : Joining flushed parsed areas) × (db ≡ joined joining)

  abbrev pub IsFaultOf : JoinFault → List (Observation A) → List AreaReport → Type 0
  IsFaultOf fault parsed areas = (fault ≡ OutOfMemory) ⊎ ((joining : Joining flushed parsed areas) × (fault_of joining.newest (joined joining) ≡ Some fault))

  module _ (files : List (ParsedFile A)) (parsed : List (Observation A)) (areas : List AreaReport)
      (parsed_is : parsed ≡ observations_of files) (areas_are : areas ≡ areas_of files) where
    moved : (P : List (Observation A) → List AreaReport → Type 0) → P parsed areas → P (observations_of files) (areas_of files)
    moved P h =
        let Q : List (Observation A) → Type 0 = λ xs. P xs areas in
        let R : List AreaReport → Type 0 = λ xs. P (observations_of files) xs in
        subst R areas_are (subst Q parsed_is h)

    dump_with : (db : Lists) (dump : List ℕ) → IsDatabase db → dump ≡ text db → IsJoined db (observations_of files) (areas_of files) → IsDump flushed files dump
    dump_with db dump h spelled k =
        let P : Lists → Type 0 = λ lists. IsDatabase lists in
        record { joining = k.0; database = subst P k.1 h; spelled = spelled ∙ ap text k.1 }

    pub is_dump : (db : Lists) (dump : List ℕ) → IsDatabase db → dump ≡ text db → IsJoined db parsed areas → IsDump flushed files dump
    is_dump db dump h spelled k = dump_with db dump h spelled (moved (IsJoined db) k)

    pub is_joined : (db : Lists) → IsDatabase db → IsJoined db parsed areas → IsJoinedFrom flushed files db
    is_joined db h k = let m = moved (IsJoined db) k in record { joining = m.0; sound = h; lists = m.1 }

    pub is_fault : (fault : JoinFault) → IsFaultOf fault parsed areas → IsJoinFault flushed files fault
    is_fault fault h = moved (IsFaultOf fault) h
