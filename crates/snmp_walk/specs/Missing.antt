-- The rows of which a walk has other columns and not the bytes: it was cut.
use Rattle.std.specs.Prelude.{◌≡◌, ◌&&◌, Bool, not, List, Option, Some, None}
use Rattle.std.specs.List.{list_any}
use Rattle.std.specs.List.Sorted.{IsStrictlySortedBy}
use Rattle.std.specs.Ordering.{eq_by_cmp}
use Rattle.findings.specs.Order.{reported_cmp}
use Rattle.findings.specs.declared.finding.Finding.TheVariants as findings
use Rattle.findings.specs.declared.part.Part.{Part}
use Rattle.findings.specs.declared.part.Part.TheVariants as parts
use Rattle.findings.specs.declared.reported_lsa.ReportedLsa.{ReportedLsa}
use Rattle.findings.specs.declared.unused_reason.UnusedReason.TheVariants.{Missing}
use Rattle.snmp_walk.specs.declared.parsed_object.ParsedObject.{ParsedObject}
use Rattle.snmp_walk.specs.declared.parsed_object.ParsedObject.TheVariants as contents

-- whether the row is one of these
abbrev pub has : ReportedLsa → List ReportedLsa → Bool
has row rows = list_any (eq_by_cmp reported_cmp row) rows

-- the rows that have columns and no bytes, each once, in order
pub record AreMissing (columns bytes rows : List ReportedLsa) : Type 0 where
  pub which : (row : ReportedLsa) → has row rows ≡ (not (has row bytes) && has row columns)
  pub order : IsStrictlySortedBy reported_cmp rows

module _ {A : Type 0} where
  -- the row of a column other than the bytes
  abbrev pub column_row : ParsedObject A → Option ReportedLsa
  column_row (contents.Lsa row observation) = None
  column_row (contents.Kind area) = None
  column_row (contents.Finding finding) = None
  column_row (contents.Row row) = Some row
  column_row (contents.Count area count) = None
  column_row contents.Nothing = None
  column_row contents.Foreign = None

  -- the row whose bytes are there, whether they are an LSA or not
  abbrev pub bytes_row : ParsedObject A → Option ReportedLsa
  bytes_row (contents.Lsa row observation) = Some row
  bytes_row (contents.Kind area) = None
  bytes_row (contents.Finding (findings.Unused row reason)) = Some row
  bytes_row (contents.Finding _) = None
  bytes_row (contents.Row row) = None
  bytes_row (contents.Count area count) = None
  bytes_row contents.Nothing = None
  bytes_row contents.Foreign = None

-- a row whose bytes are missing
abbrev pub missing_row : {A : Type 0} → ReportedLsa → Part A
missing_row row = parts.Finding (findings.Unused row Missing)
