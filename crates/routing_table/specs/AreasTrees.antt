-- The trees of all areas in memory, by their areas.
use Rattle.std.specs.Prelude.{◌≡◌, false, List, [], map, Option, IfSome}
use Rattle.std.specs.Map.{keys_of, lookup}
use Rattle.std.specs.Option.{option_map_or}
use Rattle.std.specs.Ordering.{eq_by_cmp}
use Rattle.lsa_codec.specs.declared.address.AreaId.{AreaId}
use Rattle.lsdb.specs.declared.section.Section.TheVariants.{Area}
use Rattle.lsdb.specs.Lists.{Lists, lsas_of}
use Rattle.lsa_codec.specs.Order.{area_cmp}
use Rattle.routing_table.specs.AreaTrees.{AreaTreesValue, IsAreaOf, has_tree}
use Rattle.routing_table.specs.KeptTrees.{KeptRouters, TreeSet}

abbrev pub AreasTrees : Type 0
AreasTrees = List (AreaId × AreaTreesValue)

-- what is kept: graphs and trees of areas, and the graph of an area whose trees went, if there is one
pub record KeptTreesValue : Type 0 where
  pub areas : AreasTrees
  pub spare : Option (AreaId × AreaTreesValue)

abbrev pub at_area : AreasTrees → AreaId → Option AreaTreesValue
at_area areas area = lookup (eq_by_cmp area_cmp area) areas

abbrev pub trees_at : KeptTreesValue → AreaId → Option AreaTreesValue
trees_at kept area = at_area kept.areas area

abbrev pub trees_of : AreasTrees → TreeSet
trees_of areas area router = option_map_or (λ kept. has_tree kept router) (at_area areas area) false

abbrev pub trees_in : KeptTreesValue → TreeSet
trees_in kept = trees_of kept.areas

-- the routers of the trees
abbrev pub routers_by : AreasTrees → KeptRouters
routers_by areas = map (λ area. (area.0, keys_of area.1.trees)) areas

abbrev pub routers_of : KeptTreesValue → KeptRouters
routers_of kept = routers_by kept.areas

-- each graph, with its stub links, is that of its area in the database
abbrev pub AreAreasOf : Lists → AreasTrees → Type 0
AreAreasOf db areas = (area : AreaId) → IfSome (at_area areas area) (IsAreaOf (lsas_of (Area area) db))

-- so is the one whose trees went
pub record IsSpareOf (db : Lists) (spare : AreaId × AreaTreesValue) : Type 0 where
  pub area : IsAreaOf (lsas_of (Area spare.0) db) spare.1
  pub trees : spare.1.trees ≡ []

pub record AreOfDatabase (db : Lists) (kept : KeptTreesValue) : Type 0 where
  pub areas : AreAreasOf db kept.areas
  pub spare : IfSome kept.spare (IsSpareOf db)
