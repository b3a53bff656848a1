-- The LSAs that a walk has, and the numbers of them that its router counts (RFC 4750: ospfAreaLsaCount, ospfExternLsaCount).
use Rattle.std.specs.Prelude.{◌≡◌, ℕ, ◌==◌, ◌&&◌, not, nat_lt, Bool, false, List, count_by, Option, Some, None, if◌then◌else◌}
use Rattle.std.specs.List.{filter_map}
use Rattle.std.specs.List.Sorted.{IsStrictlySortedBy}
use Rattle.findings.specs.Order.{reported_cmp}
use Rattle.findings.specs.declared.finding.Finding.{Finding}
use Rattle.findings.specs.declared.finding.Finding.TheVariants as findings
use Rattle.findings.specs.declared.part.Part.{Part}
use Rattle.findings.specs.declared.part.Part.TheVariants as parts
use Rattle.findings.specs.declared.reported_lsa.ReportedLsa.{ReportedLsa}
use Rattle.lsa_codec.specs.declared.address.AreaId.{AreaId}
use Rattle.lsa_codec.specs.LsTypes.{external_lsa}
use Rattle.snmp_walk.specs.Missing.{has}
use Rattle.snmp_walk.specs.declared.parsed_object.ParsedObject.{ParsedObject}
use Rattle.snmp_walk.specs.declared.parsed_object.ParsedObject.TheVariants as contents

-- ---- rows

module _ {A : Type 0} where
  -- the row of a column, whether its bytes are an LSA or not
  abbrev pub row_of : ParsedObject A → Option ReportedLsa
  row_of (contents.Lsa row observation) = Some row
  row_of (contents.Kind area) = None
  row_of (contents.Finding (findings.Unused row reason)) = Some row
  row_of (contents.Finding _) = None
  row_of (contents.Row row) = Some row
  row_of (contents.Count area count) = None
  row_of contents.Nothing = None
  row_of contents.Foreign = None

-- the rows, each once
pub record AreRows (rows once : List ReportedLsa) : Type 0 where
  pub which : (row : ReportedLsa) → has row once ≡ has row rows
  pub order : IsStrictlySortedBy reported_cmp once

-- ---- what counts a row

-- a number for each area, and one for AS-external-LSAs
abbrev pub counted_number : Option AreaId → ℕ
counted_number (Some area) = area.0
counted_number None = 4294967296

abbrev pub counted_of : ReportedLsa → Option AreaId → Option ℕ
counted_of row (Some area) = Some (counted_number (Some area))
counted_of row None = if not (row.key.kind == external_lsa) then None else Some (counted_number None)

-- the rows of an area are counted there, and those of type 5 outside of the areas together
abbrev pub counted_as : ReportedLsa → Option ℕ
counted_as row = counted_of row row.area

abbrev pub counts : ℕ → Option ℕ → Bool
counts counted None = false
counts counted (Some number) = number == counted

abbrev pub is_counted : ℕ → ReportedLsa → Bool
is_counted counted row = counts counted (counted_as row)

abbrev pub number_among : List ReportedLsa → ℕ → ℕ
number_among rows counted = count_by (is_counted counted) rows

-- ---- findings

abbrev pub fewer_than : Option AreaId → ℕ → ℕ → Option Finding
fewer_than area found count = if nat_lt found count then Some (findings.Fewer area found count) else None

module _ {A : Type 0} (number : ℕ → ℕ) where
  -- the finding about a count, where the walk has fewer LSAs
  abbrev pub fewer_by : ParsedObject A → Option Finding
  fewer_by (contents.Lsa row observation) = None
  fewer_by (contents.Kind area) = None
  fewer_by (contents.Finding finding) = None
  fewer_by (contents.Row row) = None
  fewer_by (contents.Count area count) = fewer_than area (number (counted_number area)) count
  fewer_by contents.Nothing = None
  fewer_by contents.Foreign = None

-- the findings about the counts of a walk, in its order, where each row counts once
pub record AreFewer {A : Type 0} (parsed : List (ParsedObject A)) (found : List Finding) : Type 0 where
  pub rows : List ReportedLsa
  pub once : AreRows (filter_map row_of parsed) rows
  pub whole : found ≡ filter_map (fewer_by (number_among rows)) parsed

abbrev pub fewer_part : {A : Type 0} → Finding → Part A
fewer_part finding = parts.Finding finding
