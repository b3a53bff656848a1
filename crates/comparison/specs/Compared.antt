-- A database, and another that is its baseline.
use Rattle.std.specs.Prelude.{◌≡◌, List, ◌++◌}
use Rattle.lsa_codec.specs.Order.{router_cmp}
use Rattle.lsa_codec.specs.declared.address.RouterId.{RouterId}
use Rattle.lsdb.specs.Lists.{Lists}
use Rattle.area_graph.specs.Rising.{rising}
use Rattle.routing_table.specs.Routers.{attached_routers}
use Rattle.forwarding.specs.Graphs.{ForwardingValue, IsForwardingOf}
use Rattle.hop_ends.specs.Owners.{AreGraphsOf, GraphsValue}
use Rattle.lost_routes.specs.Announced.{AnnouncedValue, announced_in}

pub record Compared : Type 0 where
  pub baseline : Lists
  pub present : Lists

-- what is calculated of a database: where packets go, and which prefixes are announced
pub record IsCalculated (db : Lists) (forwarding : ForwardingValue) (announced : AnnouncedValue) : Type 0 where
  pub is_forwarding : IsForwardingOf db forwarding
  pub is_announced : announced ≡ announced_in db

-- what is calculated of it without tables: the graphs of its areas, and which prefixes are announced
pub record IsOutline (db : Lists) (graphs : GraphsValue) (announced : AnnouncedValue) : Type 0 where
  pub are_graphs : AreGraphsOf db graphs
  pub is_announced : announced ≡ announced_in db

-- one router of a database
pub record RouterIn : Type 0 where
  pub db : Lists
  pub router : RouterId

-- one router of a database and of its baseline
pub record RouterCompared : Type 0 where
  pub router : RouterId
  pub both : Compared

-- the routers that are attached to areas in one or both, in order
abbrev pub routers_of_both : Compared → List RouterId
routers_of_both c = rising router_cmp (attached_routers c.baseline ++ attached_routers c.present)
