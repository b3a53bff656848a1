-- The areas of a database, and their LSAs in use (RFC 2328, 12.2 and 16.1).
use Rattle.std.specs.Prelude.{ℕ, List, map}
use Rattle.lsa_codec.specs.declared.address.AreaId.{AreaId}
use Rattle.lsdb.specs.declared.section.Section.TheVariants.{Area}
use Rattle.lsdb.specs.Lists.{Lists, areas_of, lsas_of}
use Rattle.area_graph.specs.Area.{used}
use Rattle.area_routes.specs.Attached.{id_of}

-- the areas, in rising order of their IDs
abbrev pub area_ids : Lists → List AreaId
area_ids db = map id_of (areas_of db)

-- an area of a database, and its LSAs in use
pub record UsedAreaValue : Type 0 where
  pub db : Lists
  pub area : AreaId
  pub lsas : List (List ℕ)

abbrev pub used_area : Lists → AreaId → UsedAreaValue
used_area db area = record { db = db; area = area; lsas = used (lsas_of (Area area) db) }

abbrev pub used_areas : Lists → List UsedAreaValue
used_areas db = map (used_area db) (area_ids db)
