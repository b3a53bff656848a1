-- Events of links and of the costs of interfaces: which links each is about and how they change, or the first refusal.
use Rattle.std.specs.Prelude.{◌≡◌, ℕ, ◌==◌, not, Bool, is_some, List, map, Option, Some, None, Result, Ok, Err, if◌then◌else◌}
use Rattle.std.specs.List.{list_any, list_all}
use Rattle.lsa_codec.specs.declared.address.Addr.{Addr}
use Rattle.lsa_codec.specs.declared.address.AreaId.{AreaId}
use Rattle.lsa_codec.specs.declared.address.RouterId.{RouterId}
use Rattle.lsdb.specs.Lists.{Lists}
use Rattle.interfaces.specs.Routers.{router_lsa_of}
use Rattle.lsa_remaking.specs.declared.link_change.LinkChange.{LinkChange}
use Rattle.lsa_remaking.specs.declared.link_change.LinkChange.TheVariants.{Removed, Costs}
use Rattle.event_links.specs.declared.event.LinkEvent.{LinkEvent}
use Rattle.event_links.specs.declared.event.LinkEvent.TheVariants.{CutLinks, CutLink, SetCost, SetCostAt, Drain}
use Rattle.event_links.specs.declared.fault.EventFault.{EventFault}
use Rattle.event_links.specs.declared.fault.EventFault.TheVariants.{SameRouter, NoRouter, NotNeighbors, NoInterface, UnclearEnd, ZeroCost, OutOfMemory}
use Rattle.event_links.specs.declared.link_end.LinkEnd.{LinkEnd}
use Rattle.event_links.specs.declared.selection.Selection.{Selection}
use Rattle.event_links.specs.declared.selection.Selection.TheVariants.{Between, OneLink, Towards, AtAddress, StubsAt, ToOthers}
use Rattle.event_links.specs.declared.selection.LinkEdit.{LinkEdit}
use Rattle.event_links.specs.Interfaces.{interfaces_at, is_clear, other_way}
use Rattle.event_links.specs.Selections.{area_ids, is_somewhere, stubs_everywhere, longest_mask}

-- ---- the routers of events

-- a router has a router-LSA below MaxAge in some area
abbrev pub has_router : Lists → RouterId → Bool
has_router db router = list_any (λ area. is_some (router_lsa_of db area router)) (area_ids db)

-- a router without router-LSAs is refused
abbrev pub fault_of_one : Lists → RouterId → Option EventFault
fault_of_one db router = if has_router db router then None else Some (NoRouter router)

-- two routers are to differ, and both to be there
abbrev pub fault_of_two : Lists → RouterId → RouterId → Option EventFault
fault_of_two db router neighbor =
    if router.0 == neighbor.0 then Some SameRouter else
    if has_router db router then fault_of_one db neighbor else Some (NoRouter router)

-- the answer, unless there is a fault
abbrev pub unless_fault : {X : Type 0} → Option EventFault → Result X EventFault → Result X EventFault
unless_fault None answer = answer
unless_fault (Some fault) answer = Err fault

-- ---- links that are cut

abbrev pub edit : Selection → LinkChange → LinkEdit
edit selection change = record { selection = selection; change = change }

-- `cut R S`: all point-to-point links between two routers are removed, each with the stub link of its interface, at both ends. An
-- interface that is down has no link (RFC 2328, 12.4.1).
abbrev pub cut_links : Lists → RouterId → RouterId → Result LinkEdit EventFault
cut_links db router neighbor =
    if is_somewhere db (Between router neighbor) then Ok (edit (Between router neighbor) Removed) else Err (NotNeighbors router neighbor)

-- at most one interface is at an end of a link in an area, and at most one at the other
abbrev pub clear_in : Lists → LinkEnd → AreaId → Bool
clear_in db end area = is_clear db area end (interfaces_at db area end)

-- in each area
abbrev pub clear_everywhere : Lists → LinkEnd → List Bool
clear_everywhere db end = map (clear_in db end) (area_ids db)

-- in all areas
abbrev pub are_clear : Lists → LinkEnd → Bool
are_clear db end = list_all (λ clear. clear) (clear_everywhere db end)

-- the link of interfaces, of which there is one at each end
abbrev pub cut_at : Lists → LinkEnd → Result LinkEdit EventFault
cut_at db end = if are_clear db end then Ok (edit (OneLink end) Removed) else Err (UnclearEnd end.router end.address)

-- `cut R S ADDRESS`: the link of the interface of R to S, or of S to R, with this address, likewise
abbrev pub cut_link : Lists → LinkEnd → Result LinkEdit EventFault
cut_link db end =
    if is_somewhere db (OneLink end) then cut_at db end else
    if is_somewhere db (OneLink (other_way end)) then cut_at db (other_way end) else Err (NoInterface end.router end.address)

-- ---- interfaces that get a cost

abbrev pub towards : RouterId → RouterId → Bool → Selection
towards router neighbor both = if both then Between router neighbor else Towards router neighbor

-- `set-cost R S METRIC [both]`: the interfaces of R to S, and with `both` those of S to R, get a cost: it is the metric of the
-- link and of the stub link (C.3, 12.4.1.1)
abbrev pub set_cost : Lists → RouterId → RouterId → ℕ → Bool → Result LinkEdit EventFault
set_cost db router neighbor metric both =
    if not (is_somewhere db (Towards router neighbor)) then Err (NotNeighbors router neighbor) else
    if metric == 0 then Err ZeroCost else Ok (edit (towards router neighbor both) (Costs metric))

-- the stub links of the smallest network of a router that has an address
abbrev pub set_stub_cost : RouterId → Addr → ℕ → Option ℕ → Result LinkEdit EventFault
set_stub_cost router address metric None = Err (NoInterface router address)
set_stub_cost router address metric (Some mask) = Ok (edit (StubsAt router address mask) (Costs metric))

-- `set-cost R ADDRESS METRIC`: the interface of R with this address gets a cost: that to a router or to a transit network or,
-- where there is none, those to the smallest stub network that has the address
abbrev pub set_cost_at : Lists → RouterId → Addr → ℕ → Result LinkEdit EventFault
set_cost_at db router address metric =
    if not (is_somewhere db (AtAddress router address))
    then set_stub_cost router address metric (longest_mask (stubs_everywhere db router address)) else
    if metric == 0 then Err ZeroCost else Ok (edit (AtAddress router address) (Costs metric))

-- MaxLinkMetric (RFC 6987)
abbrev pub max_link_metric : ℕ
max_link_metric = 0xffff

-- `drain R`: the links of R to routers and transit networks get the greatest metric; those to stub networks keep theirs (RFC 6987)
abbrev pub drained : RouterId → LinkEdit
drained router = edit (ToOthers router) (Costs max_link_metric)

-- ---- all events

-- the refusal of an event whose routers are not there
abbrev pub fault_of : Lists → LinkEvent → Option EventFault
fault_of db (CutLinks router neighbor) = fault_of_two db router neighbor
fault_of db (CutLink end) = fault_of_two db end.router end.neighbor
fault_of db (SetCost router neighbor metric both) = fault_of_two db router neighbor
fault_of db (SetCostAt router address metric) = fault_of_one db router
fault_of db (Drain router) = fault_of_one db router

-- what the links of an event change to where its routers are there
abbrev pub edit_of : Lists → LinkEvent → Result LinkEdit EventFault
edit_of db (CutLinks router neighbor) = cut_links db router neighbor
edit_of db (CutLink end) = cut_link db end
edit_of db (SetCost router neighbor metric both) = set_cost db router neighbor metric both
edit_of db (SetCostAt router address metric) = set_cost_at db router address metric
edit_of db (Drain router) = Ok (drained router)

-- the links of an event, and how they change; or the first refusal
abbrev pub resolved : Lists → LinkEvent → Result LinkEdit EventFault
resolved db event = unless_fault (fault_of db event) (edit_of db event)

-- ---- what the code answers

-- the fault is the one that the answer names; memory may run out before it is found
abbrev pub IsFault : EventFault → Result LinkEdit EventFault → Type 0
IsFault SameRouter answer = answer ≡ Err SameRouter
IsFault (NoRouter router) answer = answer ≡ Err (NoRouter router)
IsFault (NotNeighbors router neighbor) answer = answer ≡ Err (NotNeighbors router neighbor)
IsFault (NoInterface router address) answer = answer ≡ Err (NoInterface router address)
IsFault (UnclearEnd router address) answer = answer ≡ Err (UnclearEnd router address)
IsFault ZeroCost answer = answer ≡ Err ZeroCost
IsFault OutOfMemory answer = Unit {0}

-- a call answers what it should, unless memory runs out before
abbrev pub Answers : Result LinkEdit EventFault → Result LinkEdit EventFault → Type 0
Answers (Ok edit) answer = answer ≡ Ok edit
Answers (Err fault) answer = IsFault fault answer
