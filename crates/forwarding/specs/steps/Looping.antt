-- Whether walks come back to a router.
use Rattle.std.specs.Prelude.{◌↔◌, Bool, false, ◌==◌, List, Option, Contains, MatchOption, slice_get}
use Rattle.std.specs.List.{list_any}
use Rattle.std.specs.Option.{option_map_or}
use Rattle.lsa_codec.specs.declared.address.RouterId.{RouterId}
use Rattle.hop_ends.specs.declared.way.Way.{Way}
use Rattle.forwarding.specs.Graphs.{StepValue, next_in, ways_at}
use Rattle.forwarding.specs.Walks.{IsLoopFrom, Reaches}
use Rattle.hop_ends.specs.Ways.{router_over}

-- a way to this router
abbrev pub leads_to : RouterId → Way → Bool
leads_to router way = option_map_or (λ other. other.0 == router.0) (router_over way) false

-- a router sends to this one
abbrev pub sends_to : List StepValue → RouterId → RouterId → Bool
sends_to graph to from = list_any (leads_to to) (ways_at graph from)

-- these are the routers among some that walks lead from to this one
abbrev pub AreBack : List StepValue → RouterId → List RouterId → List RouterId → Type 0
AreBack graph router routers found = (other : RouterId) → Contains found other ↔ (Contains routers other × Reaches (next_in graph) other router)

-- a router is the first of a loop
abbrev pub is_first : RouterId → List RouterId → Bool
is_first router loop = option_map_or (λ first. first.0 == router.0) (slice_get loop 0) false

-- the loop whose least router this is, if there is one
abbrev pub IsFoundFrom : List StepValue → RouterId → Option (List RouterId) → Type 0
IsFoundFrom graph router found =
    MatchOption found ((loop : List RouterId) → ¬ IsLoopFrom (next_in graph) router loop) (λ loop. IsLoopFrom (next_in graph) router loop)
