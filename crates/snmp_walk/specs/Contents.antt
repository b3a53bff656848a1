-- What an SNMP walk contains.
use Rattle.std.specs.Prelude.{◌≡◌, ℕ, true, List, ◌++◌, map}
use Rattle.std.specs.List.{filter_map, list_any}
use Rattle.findings.specs.declared.finding.Finding.{Finding}
use Rattle.findings.specs.declared.part.Part.{Part}
use Rattle.findings.specs.declared.reported_lsa.ReportedLsa.{ReportedLsa}
use Rattle.findings.specs.Contents.{ContentLists, content_of}
use Rattle.snmp_walk.specs.Counts.{AreFewer, fewer_part}
use Rattle.snmp_walk.specs.Missing.{AreMissing, bytes_row, column_row, missing_row}
use Rattle.snmp_walk.specs.ParsedObjects.{parsed_in}
use Rattle.snmp_walk.specs.Sorting.{is_of_mib, part_of}

-- what the objects of the walk are, in its order, and after that the rows without bytes, and the counts above what it has
abbrev pub parts_with : {A : Type 0} → List ℕ → List ReportedLsa → List Finding → List (Part A)
parts_with text rows fewer = filter_map part_of (parsed_in text) ++ map missing_row rows ++ map fewer_part fewer

-- the text is a walk that contains this
pub record HasContent {A : Type 0} (text : List ℕ) (content : ContentLists A) : Type 0 where
  pub walk : list_any (is_of_mib {A = A}) (parsed_in text) ≡ true
  pub rows : List ReportedLsa
  pub fewer : List Finding
  pub missing : AreMissing (filter_map (column_row {A = A}) (parsed_in text)) (filter_map (bytes_row {A = A}) (parsed_in text)) rows
  pub counted : AreFewer {A = A} (parsed_in text) fewer
  pub whole : content ≡ content_of (parts_with text rows fewer)
