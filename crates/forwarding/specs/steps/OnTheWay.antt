-- The routers on the way of packets, as far as they are known.
use Rattle.std.specs.Prelude.{◌≡◌, Bool, true, ◌&&◌, is_none, is_some, List, Option, Some}
use Rattle.std.specs.List.{find}
use Rattle.std.specs.Ordering.{eq_by_cmp}
use Rattle.lsa_codec.specs.Order.{router_cmp}
use Rattle.lsa_codec.specs.declared.address.Addr.{Addr}
use Rattle.lsa_codec.specs.declared.address.RouterId.{RouterId}
use Rattle.lsdb.specs.Lists.{Lists}
use Rattle.routing_table.specs.Routers.{attached_routers}
use Rattle.forwarding.specs.Graphs.{StepValue, graph_over, next_in, routes_at, step_at}
use Rattle.forwarding.specs.Matches.{RouterValue, router_in}
use Rattle.forwarding.specs.Walks.{AreReached}

abbrev pub is_among : List RouterId → RouterId → Bool
is_among routers router = is_some (find (λ r. eq_by_cmp router_cmp router r) routers)

-- these are attached routers, each as in the database, and the graph is theirs
pub record IsPart (db : Lists) (address : Addr) (routers : List RouterValue) (graph : List StepValue) : Type 0 where
  pub steps : graph ≡ graph_over db address routers
  pub each : (router : RouterId) (routes : RouterValue) → routes_at routers router ≡ Some routes
      → (routes ≡ router_in db router) × (is_among (attached_routers db) router ≡ true)

-- an attached router that is not in the graph
abbrev pub is_missing : List RouterId → List StepValue → RouterId → Bool
is_missing attached graph router = is_none (step_at graph router) && is_among attached router

-- it is the first such router that walks reach, if there is one
abbrev pub IsFirstMissing : List RouterId → List StepValue → RouterId → Option RouterId → Type 0
IsFirstMissing attached graph start found =
    (reached : List RouterId) × AreReached (next_in graph) start reached × (found ≡ find (is_missing attached graph) reached)
