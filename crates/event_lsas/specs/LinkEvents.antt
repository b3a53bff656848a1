-- The database after each event of links and of the costs of interfaces, or the first refusal.
use Rattle.std.specs.Prelude.{◌≡◌, List, Result, Ok, Err}
use Rattle.lsdb.specs.Lists.{Lists}
use Rattle.lsdb.specs.Slots.{Slots, lists_of}
use Rattle.event_links.specs.declared.event.LinkEvent.{LinkEvent}
use Rattle.event_links.specs.declared.fault.EventFault.{EventFault}
use Rattle.event_links.specs.declared.fault.EventFault.TheVariants as event
use Rattle.event_links.specs.declared.selection.LinkEdit.{LinkEdit}
use Rattle.event_links.specs.Events.{resolved}
use Rattle.event_links.specs.Selections.{chosen_in}
use Rattle.event_lsas.specs.declared.fault.ChangeFault.{ChangeFault}
use Rattle.event_lsas.specs.declared.fault.ChangeFault.TheVariants.{Refused, OutOfMemory}
use Rattle.event_lsas.specs.Outcomes.{Outcome, in_areas, where_chosen, after, SlotChangeData}
use Rattle.event_lsas.specs.SlotChanges.{changes_from}

-- what becomes of each LSA where links are changed
abbrev pub outcome_of : Lists → LinkEdit → Outcome
outcome_of db e = in_areas (λ area. where_chosen e.change (chosen_in db area e.selection))

abbrev pub carried : Lists → Result LinkEdit EventFault → Result Lists EventFault
carried db (Ok e) = Ok (after (outcome_of db e) db)
carried db (Err fault) = Err fault

-- the database after an event, or the first refusal
abbrev pub link_event : Lists → LinkEvent → Result Lists EventFault
link_event db event = carried db (resolved db event)

-- the slots that an event changes are those that its links change, in their order
pub record AreChanges (d : Slots) (event : LinkEvent) (changes : List SlotChangeData) : Type 0 where
  pub edit : LinkEdit
  pub links : resolved (lists_of d) event ≡ Ok edit
  pub slots : changes ≡ changes_from (outcome_of (lists_of d) edit) 0 d

-- ---- what the code answers

abbrev pub fault_of_event : EventFault → ChangeFault
fault_of_event event.SameRouter = Refused event.SameRouter
fault_of_event (event.NoRouter router) = Refused (event.NoRouter router)
fault_of_event (event.NotNeighbors router neighbor) = Refused (event.NotNeighbors router neighbor)
fault_of_event (event.NoInterface router address) = Refused (event.NoInterface router address)
fault_of_event (event.UnclearEnd router address) = Refused (event.UnclearEnd router address)
fault_of_event event.ZeroCost = Refused event.ZeroCost
fault_of_event event.OutOfMemory = OutOfMemory

-- the event is refused with the first refusal; want of memory says nothing of it
abbrev pub IsRefusal : ChangeFault → Result Lists EventFault → Type 0
IsRefusal (Refused fault) answer = answer ≡ Err fault
IsRefusal OutOfMemory answer = Unit {0}
