-- What is kept of an area: its graph and its routers.
use Rattle.std.specs.Prelude.{◌≡◌, List}
use Rattle.lsa_codec.specs.declared.address.RouterId.{RouterId}
use Rattle.area_graph.specs.Graphs.{IsGraphOf}
use Rattle.area_graph.specs.Topology.{Topology}
use Rattle.audit_areas.specs.Areas.{AreaValue, lsas_in, routers_in}

-- the graph and the routers of an area
pub record IsKept (area : AreaValue) (graph : Topology) (routers : List RouterId) : Type 0 where
  pub graph_of : IsGraphOf (lsas_in area) graph
  pub routers_are : routers ≡ routers_in area
