-- The routers that walks reach, level after level.
use Rattle.std.specs.Prelude.{Bool, if◌then◌else◌, List, Option, None, Some}
use Rattle.std.specs.List.{filter_map, flat_map, list_any}
use Rattle.std.specs.Ordering.{eq_by_cmp}
use Rattle.lsa_codec.specs.Order.{router_cmp}
use Rattle.lsa_codec.specs.declared.address.RouterId.{RouterId}
use Rattle.area_graph.specs.Rising.{rising}
use Rattle.hop_ends.specs.declared.way.Way.{Way}
use Rattle.forwarding.specs.Graphs.{StepValue, ways_at}
use Rattle.hop_ends.specs.Ways.{router_over}

abbrev pub has_router : List RouterId → RouterId → Bool
has_router routers router = list_any (eq_by_cmp router_cmp router) routers

-- a router that is not among those seen
abbrev pub unseen : List RouterId → Option RouterId → Option RouterId
unseen seen None = None
unseen seen (Some router) = if has_router seen router then None else Some router

-- the router that a way leads to, if it was not seen
abbrev pub unseen_over : List RouterId → Way → Option RouterId
unseen_over seen way = unseen seen (router_over way)

abbrev pub unseen_from : List StepValue → List RouterId → RouterId → List RouterId
unseen_from graph seen router = filter_map (unseen_over seen) (ways_at graph router)

-- the routers to which those of a level send, but for those seen
abbrev pub next_level : List StepValue → List RouterId → List RouterId → List RouterId
next_level graph seen level = rising router_cmp (flat_map (unseen_from graph seen) level)
