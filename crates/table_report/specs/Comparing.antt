-- The text of the differences of two routing tables of a router.
use Rattle.std.specs.Prelude.{ℕ, List, ◌++◌, filter_map, if◌then◌else◌, Option, None, Some, codes}
use Rattle.std.specs.Str.{bytes_eq}
use Rattle.lsa_codec.specs.declared.address.RouterId.{RouterId}
use Rattle.lsa_codec.specs.Prefix.{Net}
use Rattle.area_graph.specs.Rising.{rising}
use Rattle.lsa_codec.specs.Order.{prefix_cmp}
use Rattle.best_ways.specs.Routes.{nets, route_to}
use Rattle.best_ways.specs.Values.{RouteValue}
use Rattle.routing_table.specs.Tables.{TableValue}
use Rattle.table_report.specs.Texts.{headed, line_of, rest_of}

-- the line for a prefix, by its route in the earlier table and in the present one: `+` where only the present table has it, `-`
-- where only the earlier one has it, and `~` where both have it and the lines differ; there is none where they are equal
abbrev pub change : Option RouteValue → Option RouteValue → Option (List ℕ)
change None None = None
change None (Some now) = Some (codes "+ " ++ line_of now)
change (Some before) None = Some (codes "- " ++ line_of before)
change (Some before) (Some now) =
    if bytes_eq (line_of before) (line_of now) then None else Some (codes "~ " ++ line_of now ++ codes " was " ++ rest_of before)

-- the lines for the prefixes at which two lists of routes differ, in order of prefix
module _ (before now : List RouteValue) where
  abbrev pub change_at : Net → Option (List ℕ)
  change_at net = change (route_to before net) (route_to now net)

  abbrev pub changes : List (List ℕ)
  changes = filter_map change_at (rising prefix_cmp (nets (before ++ now)))

-- `compare ROUTER COUNT`, and a line for each prefix at which the tables differ, in order of prefix
unfoldable pub compare_text : RouterId → TableValue → TableValue → List ℕ
compare_text router before now = headed (codes "compare") router (changes before.routes now.routes)
