-- What a file contains, and why it is refused.
use Rattle.std.specs.Prelude.{◌≡◌, ◌≢◌, ℕ, false, true, List, Some, None, option_map}
use Rattle.std.specs.List.{list_any}
use Rattle.std.specs.Str.{IsUtf8}
use Rattle.capture_files.specs.declared.fault.CaptureFault.TheVariants as capture_faults
use Rattle.capture_files.specs.Captures.{IsCaptureFault}
use Rattle.findings.specs.Contents.{ContentLists}
use Rattle.json.specs.Json.{document}
use Rattle.lsa_instances.specs.declared.area.AreaReport.{AreaReport}
use Rattle.lsa_instances.specs.declared.header.Header.{Header}
use Rattle.lsa_instances.specs.declared.observation.Observation.{Observation}
use Rattle.network_files.specs.declared.fault.FileFault.{FileFault}
use Rattle.network_files.specs.declared.fault.FileFault.TheVariants as faults
use Rattle.network_files.specs.declared.kind.FileKind.{FileKind}
use Rattle.network_files.specs.declared.kind.FileKind.TheVariants as kinds
use Rattle.network_files.specs.declared.parsed_file.ParsedFile.{ParsedFile}
use Rattle.network_files.specs.Kinds.{is_compressed, kind_of}
use Rattle.ospf_packets.specs.Contents as captures
use Rattle.frr_text.specs.Contents as texts
use Rattle.frr_json.specs.Contents as documents
use Rattle.frr_json.specs.ParsedDocuments.{has_database}
use Rattle.snmp_walk.specs.Contents as walks
use Rattle.snmp_walk.specs.ParsedObjects.{parsed_in as parsed_in_walk}
use Rattle.snmp_walk.specs.Sorting.{is_of_mib}

-- ---- the content, a line for each kind of files

-- a file of this kind with these bytes contains this
abbrev pub HasContent : {A : Type 0} → FileKind → List ℕ → ContentLists A → Type 0
HasContent kinds.Capture bytes content = captures.HasContent bytes content
HasContent kinds.Json bytes content = documents.HasContent bytes content
HasContent kinds.Printed bytes content = texts.HasContent bytes content
HasContent kinds.Walk bytes content = walks.HasContent bytes content

abbrev pub lists_in_file : {A : Type 0} → ParsedFile A → ContentLists A
lists_in_file file = record {
  observations = file.observations.items;
  kinds = file.areas.items;
  headers = file.headers.items;
  findings = file.findings.items;
}

-- a file of this kind with these bytes is read so
pub record IsFileAs {A : Type 0} (kind : FileKind) (bytes : List ℕ) (file : ParsedFile A) : Type 0 where
  pub same_kind : file.kind ≡ kind
  pub content : HasContent kind bytes (lists_in_file file)

-- a file with these bytes contains this, read as its content says
abbrev pub IsFileOf : {A : Type 0} → List ℕ → ParsedFile A → Type 0
IsFileOf bytes file = IsFileAs (kind_of bytes) bytes file

-- what a file contains of the databases of a network, without what cannot be used
abbrev pub databases_in : {A : Type 0} → ContentLists A → List (Observation A) × (List AreaReport × List Header)
databases_in content = (content.observations, (content.kinds, content.headers))

-- ---- refusals, a line for each kind of files

-- memory can run out with any file
abbrev pub IsRefusalOfCapture : List ℕ → FileFault → Type 0
IsRefusalOfCapture bytes faults.OutOfMemory = Unit {0}
IsRefusalOfCapture bytes (faults.Capture fault) = IsCaptureFault bytes fault × (fault ≢ capture_faults.OutOfMemory)
IsRefusalOfCapture bytes faults.NotJson = ⊥
IsRefusalOfCapture bytes faults.NoDatabase = ⊥
IsRefusalOfCapture bytes faults.UnknownKind = ⊥
IsRefusalOfCapture bytes faults.Compressed = ⊥

-- it has no object of the OSPF-MIB, and is compressed or not
abbrev pub IsRefusalOfWalk : (A : Type 0) → List ℕ → FileFault → Type 0
IsRefusalOfWalk A bytes faults.OutOfMemory = Unit {0}
IsRefusalOfWalk A bytes (faults.Capture fault) = ⊥
IsRefusalOfWalk A bytes faults.NotJson = ⊥
IsRefusalOfWalk A bytes faults.NoDatabase = ⊥
IsRefusalOfWalk A bytes faults.UnknownKind =
    (list_any (is_of_mib {A = A}) (parsed_in_walk bytes) ≡ false) × (is_compressed bytes ≡ false)
IsRefusalOfWalk A bytes faults.Compressed =
    (list_any (is_of_mib {A = A}) (parsed_in_walk bytes) ≡ false) × (is_compressed bytes ≡ true)

-- the file is not JSON in UTF-8, or it is and has no database
abbrev pub IsRefusalOfJson : List ℕ → FileFault → Type 0
IsRefusalOfJson bytes faults.OutOfMemory = Unit {0}
IsRefusalOfJson bytes (faults.Capture fault) = ⊥
IsRefusalOfJson bytes faults.NotJson = IsUtf8 bytes → document bytes ≡ None
IsRefusalOfJson bytes faults.NoDatabase = IsUtf8 bytes × (option_map has_database (document bytes) ≡ Some false)
IsRefusalOfJson bytes faults.UnknownKind = ⊥
IsRefusalOfJson bytes faults.Compressed = ⊥

-- what a router prints as a text is refused only where memory ran out
abbrev pub IsRefusalOfText : FileFault → Type 0
IsRefusalOfText fault = fault ≡ faults.OutOfMemory

abbrev pub IsRefusalAs : (A : Type 0) → FileKind → List ℕ → FileFault → Type 0
IsRefusalAs A kinds.Capture bytes fault = IsRefusalOfCapture bytes fault
IsRefusalAs A kinds.Json bytes fault = IsRefusalOfJson bytes fault
IsRefusalAs A kinds.Printed bytes fault = IsRefusalOfText fault
IsRefusalAs A kinds.Walk bytes fault = IsRefusalOfWalk A bytes fault

-- a file with these bytes is refused, for this fault
abbrev pub IsRefusalOf : (A : Type 0) → List ℕ → FileFault → Type 0
IsRefusalOf A bytes fault = IsRefusalAs A (kind_of bytes) bytes fault
