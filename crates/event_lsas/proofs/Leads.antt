-- What follows for an event from the links that it changes.
use Rattle.std.proofs.Common.{◌≡◌, List, Result, Ok, Err, refl, sym, ap, ◌∙◌}
use Rattle.lsdb.specs.Lists.{Lists}
use Rattle.lsdb.specs.Slots.{Slots, lists_of}
use Rattle.event_links.specs.declared.event.LinkEvent.{LinkEvent}
use Rattle.event_links.specs.declared.fault.EventFault.{EventFault}
use Rattle.event_links.specs.declared.fault.EventFault.TheVariants as event
use Rattle.event_links.specs.declared.selection.LinkEdit.{LinkEdit}
use Rattle.event_links.specs.Events.{resolved, IsFault}
use Rattle.event_lsas.specs.declared.fault.ChangeFault.{ChangeFault}
use Rattle.event_lsas.specs.declared.fault.ChangeFault.TheVariants.{Refused, OutOfMemory}
use Rattle.event_lsas.specs.LinkEvents.{carried, outcome_of, link_event, fault_of_event, IsRefusal}
use Rattle.event_lsas.specs.Outcomes.{SlotChangeData, changed_slots}
use Rattle.event_lsas.specs.SlotChanges.{changes_from}
use Rattle.event_lsas.proofs.Walked.{changes_lead}

-- the changes of the slots lead to the database after the event
pub leads : (d : Slots) (event : LinkEvent) (e : LinkEdit) (changes : List SlotChangeData) → resolved (lists_of d) event ≡ Ok e
    → changes ≡ changes_from (outcome_of (lists_of d) e) 0 d → link_event (lists_of d) event ≡ Ok (lists_of (changed_slots d changes))
leads d event e changes is made =
    ap (carried (lists_of d)) is ∙ ap Ok (sym (changes_lead (outcome_of (lists_of d) e) d))
    ∙ ap (λ (cs : List SlotChangeData). Ok (lists_of (changed_slots d cs))) (sym made)

-- a refusal of the links is one of the event
pub refused : (db : Lists) (happens : LinkEvent) (fault : EventFault) → IsFault fault (resolved db happens)
    → IsRefusal (fault_of_event fault) (link_event db happens)
refused db happens event.SameRouter is = ap (carried db) is
refused db happens (event.NoRouter router) is = ap (carried db) is
refused db happens (event.NotNeighbors router neighbor) is = ap (carried db) is
refused db happens (event.NoInterface router address) is = ap (carried db) is
refused db happens (event.UnclearEnd router address) is = ap (carried db) is
refused db happens event.ZeroCost is = ap (carried db) is
refused db happens event.OutOfMemory is = tt
