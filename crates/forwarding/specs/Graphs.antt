-- The forwarding graph of an address: what each router does with packets for it, and so to which routers it sends them.
use Rattle.std.specs.Prelude.{◌≡◌, ◌↔◌, Bool, true, false, ◌||◌, is_none, List, [], map, Option}
use Rattle.std.specs.List.{find, list_any}
use Rattle.std.specs.Option.{option_map_or}
use Rattle.std.specs.Ordering.{eq_by_cmp}
use Rattle.lsa_codec.specs.Order.{router_cmp}
use Rattle.lsa_codec.specs.declared.address.Addr.{Addr}
use Rattle.lsa_codec.specs.declared.address.RouterId.{RouterId}
use Rattle.lsdb.specs.Lists.{Lists}
use Rattle.routing_table.specs.Routers.{attached_routers}
use Rattle.forwarding.specs.declared.ends.Ends.{Ends}
use Rattle.hop_ends.specs.declared.way.Way.{Way}
use Rattle.forwarding.specs.Matches.{MatchValue, RouterValue, match_of, router_in}
use Rattle.hop_ends.specs.Owners.{AreGraphsOf, GraphsValue}
use Rattle.forwarding.specs.Walks.{Reaches}
use Rattle.hop_ends.specs.Ways.{is_direct, is_exit, routers_over}

-- what is calculated of a database for the forwarding graphs of all addresses: the graphs of its areas, and of each attached
-- router what its entries come from
pub record ForwardingValue : Type 0 where
  pub graphs : GraphsValue
  pub routers : List RouterValue

-- the attached routers, in rising order
abbrev pub routers_of : Lists → List RouterValue
routers_of db = map (router_in db) (attached_routers db)

-- what the entries of a router come from, if it is one of these
abbrev pub routes_at : List RouterValue → RouterId → Option RouterValue
routes_at routers router = find (λ r. eq_by_cmp router_cmp router r.router) routers

pub record IsForwardingOf (db : Lists) (forwarding : ForwardingValue) : Type 0 where
  pub graphs : AreGraphsOf db forwarding.graphs
  pub routers : forwarding.routers ≡ routers_of db

-- a router and its match
pub record StepValue : Type 0 where
  pub router : RouterId
  pub matched : Option MatchValue

abbrev pub step_of : Lists → Addr → RouterValue → StepValue
step_of db address r = record { router = r.router; matched = match_of db r address }

-- the forwarding graph of an address: each attached router with its match
abbrev pub graph_of : Lists → Addr → List StepValue
graph_of db address = map (step_of db address) (routers_of db)

-- ---- in a graph

module _ (graph : List StepValue) where
  abbrev pub step_at : RouterId → Option StepValue
  step_at router = find (λ s. eq_by_cmp router_cmp router s.router) graph

  -- the ways of a router: none where it has no match
  abbrev pub ways_by : StepValue → List Way
  ways_by s = option_map_or (λ m. m.ways) s.matched []

  abbrev pub ways_at : RouterId → List Way
  ways_at router = option_map_or ways_by (step_at router) []

  -- the routers to which a router sends
  abbrev pub next_in : RouterId → List RouterId
  next_in router = routers_over (ways_at router)

-- ---- on the way of packets

-- what is calculated of a database for the packets from a router to an address: the graphs of its areas, and what the entries
-- come from of each router that walks reach
pub record IsForwardingFrom (db : Lists) (start : RouterId) (address : Addr) (forwarding : ForwardingValue) : Type 0 where
  pub graphs : AreGraphsOf db forwarding.graphs
  pub reached : (router : RouterId) → Reaches (next_in (graph_of db address)) start router
      → routes_at forwarding.routers router ≡ routes_at (routers_of db) router

-- the forwarding graph of an address, of these routers alone
abbrev pub graph_over : Lists → Addr → List RouterValue → List StepValue
graph_over db address routers = map (step_of db address) routers

-- ---- how walks end

-- packets are delivered: on a network of the router itself
abbrev pub delivers : StepValue → Bool
delivers s = option_map_or (λ m. list_any is_direct m.ways) s.matched false

-- they leave the network: by a source of the router's own, or to a forwarding address outside
abbrev pub leaves_network : StepValue → Bool
leaves_network s = option_map_or (λ m. m.is_own || list_any is_exit m.ways) s.matched false

-- they are dropped
abbrev pub drops : StepValue → Bool
drops s = is_none s.matched

-- whether a router of the graph passes a test
abbrev pub passes_at : (StepValue → Bool) → List StepValue → RouterId → Bool
passes_at test graph router = option_map_or test (step_at graph router) false

-- some walk reaches a router that passes a test
abbrev pub SomeEnds : (StepValue → Bool) → List StepValue → RouterId → Type 0
SomeEnds test graph start = (router : RouterId) × Reaches (next_in graph) start router × (passes_at test graph router ≡ true)

-- how the walks from a router end, apart from loops
pub record AreEnds (graph : List StepValue) (start : RouterId) (ends : Ends) : Type 0 where
  pub delivered : (ends.is_delivered ≡ true) ↔ SomeEnds delivers graph start
  pub external : (ends.is_external ≡ true) ↔ SomeEnds leaves_network graph start
  pub blackhole : (ends.is_blackhole ≡ true) ↔ SomeEnds drops graph start
