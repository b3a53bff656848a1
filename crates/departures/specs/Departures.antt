-- Routers that leave transit networks or fail: what becomes of each LSA, and the database after each event, or its refusal.
use Rattle.std.specs.Prelude.{◌≡◌, ℕ, ◌==◌, ◌&&◌, Bool, true, false, List, length, Option, Some, None, Result, Ok, Err, if◌then◌else◌}
use Rattle.std.specs.List.{list_all}
use Rattle.lsa_codec.specs.declared.address.AreaId.{AreaId}
use Rattle.lsa_codec.specs.declared.address.RouterId.{RouterId}
use Rattle.lsa_codec.specs.Fields.{advertising_router_of}
use Rattle.lsdb.specs.Lists.{Lists}
use Rattle.lsdb.specs.Slots.{Slots, lists_of}
use Rattle.area_graph.specs.Area.{is_live, is_router_lsa}
use Rattle.lsa_remaking.specs.declared.link_change.LinkChange.{LinkChange}
use Rattle.lsa_remaking.specs.declared.link_change.LinkChange.TheVariants.{Stays, Removed, Costs, LeadsTo, StubOf}
use Rattle.lsa_remaking.specs.declared.link_change.ChangedLink.{ChangedLink}
use Rattle.event_links.specs.Events.{has_router}
use Rattle.event_links.specs.Selections.{area_ids, id_of}
use Rattle.event_lsas.specs.Outcomes.{LsaChange, kept, becomes, Outcome, after, unless_empty, SlotChangeData}
use Rattle.event_lsas.specs.SlotChanges.{changes_from}
use Rattle.network_departures.specs.declared.departure.Departure.{Departure}
use Rattle.network_departures.specs.declared.departure.Departure.TheVariants.{LeavesNetwork, Fails}
use Rattle.network_departures.specs.Leaving.{router_of, fails, is_left, networks_left}
use Rattle.network_departures.specs.LinksAfter.{links_after}
use Rattle.network_departures.specs.Successors.{network_after}
use Rattle.departures.specs.declared.fault.DepartureFault.{DepartureFault}
use Rattle.departures.specs.declared.fault.DepartureFault.TheVariants.{NoRouter, NotOnNetwork, NotMade, OutOfMemory}

-- ---- router-LSAs

abbrev pub is_stay : LinkChange → Bool
is_stay Stays = true
is_stay Removed = false
is_stay (Costs metric) = false
is_stay (LeadsTo id) = false
is_stay (StubOf number mask) = false

abbrev pub all_stay : List ChangedLink → Bool
all_stay links = list_all (λ changed. is_stay changed.change) links

-- a router-LSA with these links; one whose links all stay is kept as it is. One without links is withdrawn (RFC 2328, 12.4.1, 16.2).
abbrev pub relinked_by : List ChangedLink → List ℕ → LsaChange
relinked_by links lsa = if all_stay links then kept else becomes (unless_empty links lsa)

abbrev pub originator_of : List ℕ → RouterId
originator_of lsa = record { 0 = advertising_router_of lsa }

-- each router originates its router-LSA again where its links change
abbrev pub router_lsa_after : Lists → Departure → AreaId → List (List ℕ) → List ℕ → LsaChange
router_lsa_after db event area networks lsa =
    if is_router_lsa lsa && is_live lsa then relinked_by (links_after db event area networks (originator_of lsa) lsa) lsa else kept

-- ---- all LSAs

-- an LSA of the router that fails. Routers keep it until it is old, but nobody reaches the router.
abbrev pub is_of_failed : Departure → List ℕ → Bool
is_of_failed event lsa = fails event && (advertising_router_of lsa == (router_of event).0)

-- what becomes of an LSA of an area: a network-LSA of a network that is left gives way to the one that is there afterwards, the LSAs
-- of a router that fails go, and the other routers' links change
abbrev pub area_lsa_after : Lists → Departure → AreaId → List ℕ → LsaChange
area_lsa_after db event area lsa =
    if is_left db event area lsa then becomes (network_after db area (router_of event) lsa) else
    if is_of_failed event lsa then becomes None else
    router_lsa_after db event area (networks_left db event area) lsa

-- those of AS scope go with the router that fails
abbrev pub as_lsa_after : Departure → List ℕ → LsaChange
as_lsa_after event lsa = if is_of_failed event lsa then becomes None else kept

abbrev pub outcome_of : Lists → Departure → Outcome
outcome_of db event None lsa = as_lsa_after event lsa
outcome_of db event (Some head) lsa = area_lsa_after db event (id_of head) lsa

-- ---- events

abbrev pub all_zero : List ℕ → Bool
all_zero counts = list_all (λ count. count == 0) counts

-- no area has a network that the router leaves
abbrev pub leaves_nothing : Lists → Departure → Bool
leaves_nothing db event = list_all (λ area. length (networks_left db event area) == 0) (area_ids db)

-- a router that leaves a network is on one with that prefix
abbrev pub network_fault : Lists → Departure → Option DepartureFault
network_fault db (LeavesNetwork router net) = if leaves_nothing db (LeavesNetwork router net) then Some (NotOnNetwork router net) else None
network_fault db (Fails router) = None

-- the first refusal: a router that goes has a router-LSA
abbrev pub fault_of : Lists → Departure → Option DepartureFault
fault_of db event = if has_router db (router_of event) then network_fault db event else Some (NoRouter (router_of event))

abbrev pub unless_fault : Option DepartureFault → Lists → Result Lists DepartureFault
unless_fault None new = Ok new
unless_fault (Some fault) new = Err fault

-- the database after a departure, or the first refusal
abbrev pub departure : Lists → Departure → Result Lists DepartureFault
departure db event = unless_fault (fault_of db event) (after (outcome_of db event) db)

-- the event is not refused, and these are the slots that it changes, in their order
pub record AreDepartures (d : Slots) (event : Departure) (changes : List SlotChangeData) : Type 0 where
  pub happens : departure (lists_of d) event ≡ Ok (after (outcome_of (lists_of d) event) (lists_of d))
  pub slots : changes ≡ changes_from (outcome_of (lists_of d) event) 0 d

-- ---- what the code answers

-- the event is refused with the first refusal; an LSA that cannot be made, and memory, say nothing of it
abbrev pub IsRefusal : DepartureFault → Result Lists DepartureFault → Type 0
IsRefusal (NoRouter router) answer = answer ≡ Err (NoRouter router)
IsRefusal (NotOnNetwork router net) answer = answer ≡ Err (NotOnNetwork router net)
IsRefusal (NotMade fault) answer = Unit {0}
IsRefusal OutOfMemory answer = Unit {0}

-- a fault that says nothing of the event
abbrev pub is_late : DepartureFault → Bool
is_late (NoRouter router) = false
is_late (NotOnNetwork router net) = false
is_late (NotMade fault) = true
is_late OutOfMemory = true
