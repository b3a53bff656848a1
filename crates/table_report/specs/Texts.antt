-- The text of a routing table (RFC 2328, 11): a line for each route.
use Rattle.std.specs.Prelude.{ℕ, List, [], ◌∷◌, ◌++◌, length, map, flat_map, codes, decimal}
use Rattle.std.specs.List.{join_with_byte}
use Rattle.lsa_codec.specs.declared.address.AreaId.{AreaId}
use Rattle.lsa_codec.specs.declared.address.RouterId.{RouterId}
use Rattle.lsa_codec.specs.Spelling.{address_text, prefix_text}
use Rattle.next_hops.specs.declared.hop.Hop.{Hop}
use Rattle.next_hops.specs.Hop.{hop_text}
use Rattle.best_ways.specs.declared.rank.PathType.{PathType}
use Rattle.best_ways.specs.declared.rank.PathType.TheVariants.{Intra, Inter, Ext1, Ext2}
use Rattle.best_ways.specs.Values.{RouteValue}
use Rattle.routing_table.specs.Tables.{TableValue}

-- ---- a route

-- the word for a type of paths
abbrev pub kind_text : PathType → List ℕ
kind_text Intra = codes "intra"
kind_text Inter = codes "inter"
kind_text Ext1 = codes "ext1"
kind_text Ext2 = codes "ext2"

-- the lowest of areas that rise, and a dash where there is none, as for an external route
abbrev pub area_text : List AreaId → List ℕ
area_text [] = codes "-"
area_text (area ∷ areas) = address_text area.0

-- the hops, joined by commas
abbrev pub hops_text : List Hop → List ℕ
hops_text hops = join_with_byte 44 (map hop_text hops)

-- what is said of a route but its prefix: kind, cost, type 2 metric, area and hops, joined by spaces
abbrev pub rest_of : RouteValue → List ℕ
rest_of r = join_with_byte 32 (kind_text r.kind ∷ decimal r.cost ∷ decimal r.cost2 ∷ area_text r.areas ∷ hops_text r.hops ∷ [])

-- the prefix, a space and the rest
abbrev pub line_of : RouteValue → List ℕ
line_of r = prefix_text r.net ++ codes " " ++ rest_of r

-- ---- a table

-- lines, each with its end
abbrev pub lines_text : List (List ℕ) → List ℕ
lines_text lines = flat_map (λ line. line ++ codes "\n") lines

-- a word, a router and how many lines follow; and these lines
abbrev pub headed : List ℕ → RouterId → List (List ℕ) → List ℕ
headed word router lines = word ++ codes " " ++ address_text router.0 ++ codes " " ++ decimal (length lines) ++ codes "\n" ++ lines_text lines

-- `table ROUTER COUNT`, and a line for each route, in order of prefix
unfoldable pub table_text : TableValue → List ℕ
table_text table = headed (codes "table") table.router (map line_of table.routes)
