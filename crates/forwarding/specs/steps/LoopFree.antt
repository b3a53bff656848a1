-- Routers that no loop passes: all that they send to are such routers, too.
use Rattle.std.specs.Prelude.{Bool, true, List, Contains}
use Rattle.std.specs.List.{list_all}
use Rattle.std.specs.Option.{option_map_or}
use Rattle.lsa_codec.specs.declared.address.RouterId.{RouterId}
use Rattle.hop_ends.specs.declared.way.Way.{Way}
use Rattle.forwarding.specs.Graphs.{StepValue, ways_at}
use Rattle.forwarding.specs.Walks.{IsOnCycle}
use Rattle.hop_ends.specs.Ways.{router_over}
use Rattle.forwarding.specs.steps.Levels.{has_router}

-- a way ends, or leads to one of these routers
abbrev pub leads_into : List RouterId → Way → Bool
leads_into loop_free way = option_map_or (λ router. has_router loop_free router) (router_over way) true

-- all ways of a router do
abbrev pub leads_only_into : List StepValue → List RouterId → RouterId → Bool
leads_only_into graph loop_free router = list_all (leads_into loop_free) (ways_at graph router)

-- no step leads out of these routers, and no walk from one of them comes back to it
pub record AreLoopFree (next : RouterId → List RouterId) (loop_free : List RouterId) : Type 0 where
  pub closed : (v w : RouterId) → Contains loop_free v → Contains (next v) w → Contains loop_free w
  pub apart : (v : RouterId) → Contains loop_free v → ¬ IsOnCycle next v
