-- The findings in a file.
use Rattle.std.specs.Prelude.{◌≡◌, ◌==◌, ◌&&◌, not, Bool, true, false, if◌then◌else◌, List, [], ◌∷◌, ◌++◌, length, map, Option, None, Some}
use Rattle.std.specs.List.{filter_map, list_any}
use Rattle.findings.specs.declared.finding.Finding.{Finding}
use Rattle.findings.specs.declared.finding.Finding.TheVariants.{Empty, Nssa, NotRead}
use Rattle.lsa_codec.specs.declared.address.AreaId.{AreaId}
use Rattle.lsa_codec.specs.Order.{area_cmp}
use Rattle.lsa_instances.specs.declared.area.AreaKind.{AreaKind}
use Rattle.lsa_instances.specs.declared.area.AreaKind.TheVariants as kinds
use Rattle.lsa_instances.specs.declared.area.AreaReport.{AreaReport}
use Rattle.network_files.specs.declared.kind.FileKind.{FileKind}
use Rattle.network_files.specs.declared.kind.FileKind.TheVariants as kinds_of_files
use Rattle.network_files.specs.declared.parsed_file.ParsedFile.{ParsedFile}
use Rattle.capture_report.specs.Sets.{AreOnce}

abbrev pub nssa_of_kind : AreaKind → AreaId → Option AreaId
nssa_of_kind kinds.Ordinary area = None
nssa_of_kind kinds.Stub area = None
nssa_of_kind kinds.Nssa area = Some area

-- the area, where it is reported to be not-so-stubby
abbrev pub reported_nssa : AreaReport → Option AreaId
reported_nssa area = nssa_of_kind area.kind area.id

-- LSAs of types that are not read
abbrev pub is_not_read : Finding → Bool
is_not_read (NotRead feature count) = true
is_not_read _ = false

-- in JSON the databases of a router are named, though they may be empty
abbrev pub is_document : FileKind → Bool
is_document kinds_of_files.Capture = false
is_document kinds_of_files.Json = true
is_document kinds_of_files.Printed = false
is_document kinds_of_files.Walk = false

-- there is neither an LSA nor the kind of an area nor a header of an LSA, and none of types that are not read
abbrev pub has_nothing : {A : Type 0} → ParsedFile A → Bool
has_nothing file =
    length file.observations.items == 0 && length file.areas.items == 0 && length file.headers.items == 0
    && not (list_any is_not_read file.findings.items)

-- a file that contains nothing was not meant, unless it is a document that says so
abbrev pub empty_finding : {A : Type 0} → ParsedFile A → List Finding
empty_finding file = if has_nothing file && not (is_document file.kind) then Empty ∷ [] else []

-- what cannot be used in the file, or is missing; that it contains nothing; and after it the not-so-stubby areas, each
-- once, in rising order
pub record AreFileFindings {A : Type 0} (file : ParsedFile A) (findings : List Finding) : Type 0 where
  pub nssas : List AreaId
  pub once : AreOnce area_cmp (filter_map reported_nssa file.areas.items) nssas
  pub reported : findings ≡ file.findings.items ++ empty_finding file ++ map Nssa nssas
