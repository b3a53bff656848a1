-- Blackholes: routers without a match for packets that others send to them.
use Rattle.std.specs.Prelude.{◌≡◌, ◌==◌, ◌&&◌, not, Bool, false, List, [], filter, map}
use Rattle.std.specs.List.{list_any}
use Rattle.std.specs.Option.{option_map_or}
use Rattle.lsa_codec.specs.Prefix.{Net}
use Rattle.lsa_codec.specs.declared.address.RouterId.{RouterId}
use Rattle.forwarding.specs.Graphs.{StepValue, drops, passes_at}
use Rattle.hop_ends.specs.Ways.{router_over}
use Rattle.hop_ends.specs.declared.way.Way.{Way}
use Rattle.microloops.specs.Changeover.{routers_of}

-- the ways of a router's match
abbrev pub ways_of : StepValue → List Way
ways_of s = option_map_or (λ m. m.ways) s.matched []

-- a way to this router
abbrev pub leads_to : RouterId → Way → Bool
leads_to to way = option_map_or (λ router. router.0 == to.0) (router_over way) false

-- a way of a router's match leads to this one
abbrev pub sends_to : RouterId → StepValue → Bool
sends_to to s = list_any (leads_to to) (ways_of s)

-- the routers that send to this one
abbrev pub senders : List StepValue → RouterId → List RouterId
senders graph to = routers_of (filter (sends_to to) graph)

-- a router without a match, to which another one sends
abbrev pub is_blackhole : List StepValue → RouterId → Bool
is_blackhole graph router = passes_at drops graph router && list_any (sends_to router) graph

-- one that it is now, and was not before
abbrev pub is_new : List StepValue → List StepValue → RouterId → Bool
is_new was is router = is_blackhole is router && not (is_blackhole was router)

pub record BlackholeValue : Type 0 where
  pub net : Net
  pub router : RouterId
  pub senders : List RouterId

abbrev pub blackhole_at : Net → List StepValue → RouterId → BlackholeValue
blackhole_at net graph router = record { net = net; router = router; senders = senders graph router }

-- the new blackholes, in order of the routers
abbrev pub new_blackholes : Net → List StepValue → List StepValue → List BlackholeValue
new_blackholes net was is = map (blackhole_at net is) (filter (is_new was is) (routers_of is))

abbrev pub AreNewBlackholes : Net → List StepValue → List StepValue → List BlackholeValue → Type 0
AreNewBlackholes net was is found = found ≡ new_blackholes net was is
