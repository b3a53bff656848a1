-- The databases of a document that FRR prints: one for each LS type.
use Rattle.std.specs.Prelude.{ℕ, codes, Bool, true, false, List}
use Rattle.frr_text.specs.declared.ls_type.LsType.TheVariants as types
use Rattle.frr_json.specs.declared.table.Table.{Table}
use Rattle.frr_json.specs.declared.table.Table.TheVariants as tables

-- the name of a database; only this distinguishes the types 3 and 4
abbrev pub table_name : Table → List ℕ
table_name (tables.Read types.Router) = codes "routerLinkStates"
table_name (tables.Read types.Network) = codes "networkLinkStates"
table_name (tables.Read types.Summary) = codes "summaryLinkStates"
table_name (tables.Read types.AsbrSummary) = codes "asbrSummaryLinkStates"
table_name (tables.Read types.External) = codes "asExternalLinkStates"
table_name tables.Nssa = codes "nssaExternalLinkStates"
table_name tables.LinkOpaque = codes "linkLocalOpaqueLsa"
table_name tables.AreaOpaque = codes "areaLocalOpaqueLsa"
table_name tables.AsOpaque = codes "asExternalOpaqueLsa"

-- the types 5 and 11 have AS scope (RFC 2328, A.4.5; RFC 5250, 3): they belong to no area
abbrev pub is_as_wide : Table → Bool
is_as_wide (tables.Read types.Router) = false
is_as_wide (tables.Read types.Network) = false
is_as_wide (tables.Read types.Summary) = false
is_as_wide (tables.Read types.AsbrSummary) = false
is_as_wide (tables.Read types.External) = true
is_as_wide tables.Nssa = false
is_as_wide tables.LinkOpaque = false
is_as_wide tables.AreaOpaque = false
is_as_wide tables.AsOpaque = true
