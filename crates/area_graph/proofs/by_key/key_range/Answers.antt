use Rattle.std.proofs.Common.{sym, subst}
use Rattle.lsdb.specs.KeyRanges.{HaveKeysBetween}
use Rattle.area_graph.specs.declared.vertex.Vertex.{Vertex}
use Rattle.area_graph.specs.steps.KeyRange.{IsOfVertex}
use Rattle.area_graph.proofs.ByKey.{network_keys, router_keys}
use Rattle.area_graph.proofs.by_key.key_range.Goals as goal

pub returns-in-Router : goal.returns-in-Router
returns-in-Router c =
    subst (λ (v : Vertex). HaveKeysBetween (IsOfVertex v) c.of_router.result c.of_router-in-Router.result) (sym c.in-Router.is)
    (router_keys c.in-Router.router c.of_router.result c.of_router-in-Router.result c.of_router.ensures c.of_router-in-Router.ensures)

pub returns-in-Network : goal.returns-in-Network
returns-in-Network c =
    subst (λ (v : Vertex). HaveKeysBetween (IsOfVertex v) c.network_keys.result.0 c.network_keys.result.1) (sym c.in-Network.is)
    (network_keys c.in-Network.network c.network_keys.result.0 c.network_keys.result.1 c.network_keys.ensures.covers)
