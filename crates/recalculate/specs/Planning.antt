-- What a planner shows: its session, how often it calculated trees, and which trees and tables it keeps.
use Rattle.std.specs.Prelude.{◌≡◌, ℕ, List, [], Option, Some, None, IfSome, option_map}
use Rattle.lsa_codec.specs.declared.address.RouterId.{RouterId}
use Rattle.lsdb.specs.declared.section.Section.TheVariants.{AsWide}
use Rattle.lsdb.specs.Lists.{Lists, lsas_of}
use Rattle.area_routes.specs.Attached.{attached_areas}
use Rattle.external_routes.specs.declared.external_lsas.ExternalLsa.{ExternalLsa}
use Rattle.external_routes.specs.ExternalLsas.{AreListedOf}
use Rattle.edit_history.specs.Session.{Session, state}
use Rattle.routing_table.specs.AreasTrees.{KeptTreesValue, AreOfDatabase, routers_of}
use Rattle.routing_table.specs.KeptTrees.{KeptRouters, areas_without_tree, is_kept}
use Rattle.routing_table.specs.Tables.{TableValue, table_in}

-- the routers of the tables that are kept: of the last one of a session's database, and of the one of the database that it began
-- at; and the router whose table was asked for last
pub record KeptTables : Type 0 where
  pub last : Option RouterId
  pub first : Option RouterId
  pub asked : Option RouterId

-- where the last one goes
abbrev pub without_last : KeptTables → KeptTables
without_last tables = record { last = None; first = tables.first; asked = tables.asked }

-- a session, how many trees were calculated for its tables, and of which routers of which areas trees are kept: of its database,
-- and of the database that it began at; and the tables that are kept
pub record PlannerValue : Type 0 where
  pub session : Session
  pub runs : ℕ
  pub kept : KeptRouters
  pub first_kept : KeptRouters
  pub tables : KeptTables

abbrev pub router_of : Option TableValue → Option RouterId
router_of table = option_map (λ table. table.router) table

-- the table of a router in a database, in each of whose areas there the router's tree is kept
pub record IsTableOver (db : Lists) (kept : KeptRouters) (router : RouterId) (table : TableValue) : Type 0 where
  pub shows : table_in db router ≡ Some table
  pub trees : areas_without_tree (is_kept kept) router (attached_areas db router) ≡ []

-- what is kept of a database for tables: graphs and trees of its areas, the list of its AS-external-LSAs, and the last table
pub record CacheValue : Type 0 where
  pub trees : KeptTreesValue
  pub externals : Option (List ExternalLsa)
  pub table : Option TableValue

-- all of it is of this database
pub record IsCacheOf (db : Lists) (cache : CacheValue) : Type 0 where
  pub trees : AreOfDatabase db cache.trees
  pub externals : AreListedOf (lsas_of AsWide db) cache.externals
  pub table : IfSome cache.table (λ table. IsTableOver db (routers_of cache.trees) table.router table)

-- what is kept is of the session's database, and of the database that it began at
pub record AreCachesOf (s : Session) (now beginning : CacheValue) : Type 0 where
  pub present : IsCacheOf (state s) now
  pub baseline : IsCacheOf s.base beginning
