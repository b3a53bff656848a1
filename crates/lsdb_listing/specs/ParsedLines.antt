-- What the lines of a list contain.
use Rattle.std.specs.Prelude.{Bool, true, false, List, [], ◌∷◌, ◌++◌, Option, Some, None, if◌then◌else◌}
use Rattle.std.specs.Option.{option_to_list}
use Rattle.findings.specs.declared.part.Part.{Part}
use Rattle.findings.specs.declared.part.Part.TheVariants as contents
use Rattle.findings.specs.declared.unused_reason.UnusedReason.TheVariants as reasons
use Rattle.findings.specs.Notices.{is_opaque_type}
use Rattle.findings.specs.Parts.{unused}
use Rattle.lsa_codec.specs.declared.address.AreaId.{AreaId}
use Rattle.lsa_instances.specs.declared.place.Scope.{Scope}
use Rattle.lsa_instances.specs.Order.{scope_of_report}
use Rattle.lsdb_listing.specs.declared.heading.Heading.{Heading}
use Rattle.lsdb_listing.specs.declared.line_kind.LineKind.{LineKind}
use Rattle.lsdb_listing.specs.declared.line_kind.LineKind.TheVariants as kinds
use Rattle.lsdb_listing.specs.declared.row.Row.{Row}
use Rattle.lsdb_listing.specs.Lines.{Line}
use Rattle.lsdb_listing.specs.Headings.{line_kind_of, heading_after}
use Rattle.lsdb_listing.specs.Rows.{row_under, area_under}

abbrev pub in_scope : {A : Type 0} → Row → Option Scope → Part A
in_scope row None = unused row.key reasons.NoArea
in_scope row (Some scope) =
    contents.Header (record { place = record { scope = scope; key = row.key }; instance = row.instance; age = row.age })

-- the LSA has the scope of its LS type in the area of the heading. An opaque one is ignored, since the planner leaves it
-- out: two links of an area may even have LSAs of one key (RFC 5250, 2)
abbrev pub parsed_row : {A : Type 0} → Option AreaId → Option Row → Option (Part A)
parsed_row area None = Some contents.Unreadable
parsed_row area (Some row) = if is_opaque_type row.key.kind then None else Some (in_scope row (scope_of_report row.key.kind area))

abbrev pub row_below : {A : Type 0} → Option Heading → Line → List (Part A)
row_below None line = []
row_below (Some heading) line = option_to_list (parsed_row (area_under heading) (row_under heading line))

-- a row contains its header; a heading that is not known is a finding, since its rows are not read; other lines add
-- nothing
abbrev pub parsed_by : {A : Type 0} → Option Heading → Line → LineKind → List (Part A)
parsed_by heading line (kinds.Heading next) = []
parsed_by heading line kinds.Start = []
parsed_by heading line kinds.Foreign = contents.Unreadable ∷ []
parsed_by heading line kinds.Idle = []
parsed_by heading line kinds.Row = row_below heading line

-- what the lines from here on contain, under the heading that stands before them
unfoldable pub parsed_in : {A : Type 0} → Option Heading → List Line → List (Part A)
parsed_in heading [] = []
parsed_in heading (line ∷ others) = parsed_by heading line (line_kind_of line) ++ parsed_in (heading_after heading (line_kind_of line)) others

abbrev pub is_heading : LineKind → Bool
is_heading (kinds.Heading heading) = true
is_heading kinds.Start = false
is_heading kinds.Foreign = false
is_heading kinds.Idle = false
is_heading kinds.Row = false
