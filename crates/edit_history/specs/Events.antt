-- Events as edits: what each is, what becomes of each LSA, and the refusals.
use Rattle.std.specs.Prelude.{ℕ, Bool, ◌||◌, Option, Some, None, Result, Ok, Err, if◌then◌else◌}
use Rattle.lsa_codec.specs.declared.address.Addr.{Addr}
use Rattle.lsa_codec.specs.declared.address.RouterId.{RouterId}
use Rattle.lsdb.specs.Lists.{Lists}
use Rattle.edit_script.specs.declared.event.Event.{Event}
use Rattle.edit_script.specs.declared.event.Event.TheVariants as events
use Rattle.event_links.specs.declared.event.LinkEvent.{LinkEvent}
use Rattle.event_links.specs.declared.event.LinkEvent.TheVariants as links
use Rattle.event_links.specs.declared.fault.EventFault.{EventFault}
use Rattle.event_links.specs.declared.fault.EventFault.TheVariants as fault
use Rattle.event_links.specs.declared.selection.LinkEdit.{LinkEdit}
use Rattle.event_links.specs.declared.selection.Selection.TheVariants.{Towards}
use Rattle.event_links.specs.Events.{resolved}
use Rattle.event_links.specs.Selections.{is_somewhere}
use Rattle.event_lsas.specs.LinkEvents.{outcome_of}
use Rattle.event_lsas.specs.Outcomes.{LsaChange, kept, becomes}
use Rattle.network_departures.specs.declared.departure.Departure.{Departure}
use Rattle.network_departures.specs.declared.departure.Departure.TheVariants as departs
use Rattle.departures.specs.declared.fault.DepartureFault.{DepartureFault}
use Rattle.departures.specs.declared.fault.DepartureFault.TheVariants as departure
use Rattle.departures.specs.Departures.{outcome_of as outcome_of_departure, fault_of as fault_of_departure}
use Rattle.edit_history.specs.declared.fault.EditFault.{EditFault}
use Rattle.edit_history.specs.declared.fault.EditFault.TheVariants.{NoRouter, ZeroCost, SameRouter, KeyTaken, OutOfMemory, NotNeighbors, NoInterface, NotOnNetwork, UnclearEnd}
use Rattle.edit_history.specs.declared.happening.Happening.{Happening}
use Rattle.edit_history.specs.declared.happening.Happening.TheVariants.{OfLinks, Departs}
use Rattle.edit_history.specs.Rules.{Fate, stays, removed, rewritten, Fates, Rule, by_fates, changes_by}
use Rattle.edit_history.specs.Fitting.{all_fit}

-- ---- what happens

-- the router whose Router ID is this
abbrev pub router_at : Addr → RouterId
router_at address = record { 0 = address.0 }

-- the far end of interfaces is a neighbor where both ends get the cost, or the router has links to one of this Router ID; else it is
-- the address of an interface
abbrev pub is_neighbor : Lists → RouterId → Addr → Bool → Bool
is_neighbor db router far both = both || is_somewhere db (Towards router (router_at far))

abbrev pub cost_event : Lists → RouterId → Addr → ℕ → Bool → LinkEvent
cost_event db router far metric both =
    if is_neighbor db router far both then links.SetCost router (router_at far) metric both else links.SetCostAt router far metric

-- links change, or a router goes
abbrev pub happening_of : Lists → Event → Happening
happening_of db (events.Cut router neighbor None) = OfLinks (links.CutLinks router neighbor)
happening_of db (events.Cut router neighbor (Some address)) =
    OfLinks (links.CutLink (record { router = router; neighbor = neighbor; address = address }))
happening_of db (events.Leave router prefix) = Departs (departs.LeavesNetwork router prefix)
happening_of db (events.SetCost router far metric both) = OfLinks (cost_event db router far metric both)
happening_of db (events.Drain router) = OfLinks (links.Drain router)
happening_of db (events.Fail router) = Departs (departs.Fails router)

-- ---- what becomes of each LSA

abbrev pub fate_of_change : LsaChange → Fate
fate_of_change kept = stays
fate_of_change (becomes None) = removed
fate_of_change (becomes (Some new)) = rewritten new

abbrev pub link_fates : Lists → LinkEdit → Fates
link_fates db edit head lsa = fate_of_change (outcome_of db edit head lsa)

abbrev pub departure_fates : Lists → Departure → Fates
departure_fates db event head lsa = fate_of_change (outcome_of_departure db event head lsa)

-- ---- refusals

abbrev pub refusal_of : EventFault → EditFault
refusal_of fault.SameRouter = SameRouter
refusal_of (fault.NoRouter router) = NoRouter
refusal_of (fault.NotNeighbors router neighbor) = NotNeighbors
refusal_of (fault.NoInterface router address) = NoInterface
refusal_of (fault.UnclearEnd router address) = UnclearEnd
refusal_of fault.ZeroCost = ZeroCost
refusal_of fault.OutOfMemory = OutOfMemory

abbrev pub rule_by : Lists → Result LinkEdit EventFault → Result Rule EditFault
rule_by db (Ok edit) = Ok (by_fates (link_fates db edit))
rule_by db (Err why) = Err (refusal_of why)

-- of these the first refusal of a departure is one of the first two
abbrev pub departure_refusal : DepartureFault → EditFault
departure_refusal (departure.NoRouter router) = NoRouter
departure_refusal (departure.NotOnNetwork router net) = NotOnNetwork
departure_refusal (departure.NotMade why) = OutOfMemory
departure_refusal departure.OutOfMemory = OutOfMemory

-- a successor cannot originate a network-LSA whose key an LSA has
abbrev pub rule_if_fit : Lists → Fates → Result Rule EditFault
rule_if_fit db fates = if all_fit db (changes_by (by_fates fates) db) then Ok (by_fates fates) else Err KeyTaken

abbrev pub rule_unless : Lists → Departure → Option DepartureFault → Result Rule EditFault
rule_unless db event None = rule_if_fit db (departure_fates db event)
rule_unless db event (Some why) = Err (departure_refusal why)

-- the first refusal of what happens, or its rule
abbrev pub happening_rule : Lists → Happening → Result Rule EditFault
happening_rule db (OfLinks event) = rule_by db (resolved db event)
happening_rule db (Departs event) = rule_unless db event (fault_of_departure db event)

-- the first refusal of an event, or its rule
abbrev pub event_rule : Lists → Event → Result Rule EditFault
event_rule db event = happening_rule db (happening_of db event)
