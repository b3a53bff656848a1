-- Events: the swaps of what happens carry its fates out, and a refusal is one of the event.
use Rattle.std.proofs.Common.{◌≡◌, List, map, Some, None, Result, Ok, Err, refl, sym, ap, ◌∙◌, true≢false}
use Rattle.lsdb.specs.Lists.{Lists, IsDatabase}
use Rattle.lsdb.specs.Slots.{Slots, lists_of}
use Rattle.edit_script.specs.declared.edit.Edit.TheVariants.{Event as of_event}
use Rattle.edit_script.specs.declared.event.Event.{Event}
use Rattle.event_links.specs.declared.event.LinkEvent.{LinkEvent}
use Rattle.event_links.specs.declared.fault.EventFault.{EventFault}
use Rattle.event_links.specs.declared.selection.LinkEdit.{LinkEdit}
use Rattle.event_links.specs.Events.{resolved}
use Rattle.event_lsas.specs.declared.fault.ChangeFault.{ChangeFault}
use Rattle.event_lsas.specs.declared.fault.ChangeFault.TheVariants.{Refused, OutOfMemory as memory}
use Rattle.event_lsas.specs.LinkEvents.{AreChanges, IsRefusal, carried, link_event, outcome_of}
use Rattle.event_lsas.specs.Outcomes.{LsaChange, kept, becomes, SlotChangeData}
use Rattle.event_lsas.proofs.ReplacementLemmas.{outcome_safe}
use Rattle.edit_history.specs.Rules.{Fates, by_fates}
use Rattle.edit_history.specs.Effect.{rule_of}
use Rattle.edit_history.specs.declared.fault.EditFault.{EditFault}
use Rattle.edit_history.specs.declared.fault.EditFault.TheVariants.{OutOfMemory}
use Rattle.edit_history.specs.declared.happening.Happening.{Happening}
use Rattle.edit_history.specs.declared.happening.Happening.TheVariants.{OfLinks, Departs}
use Rattle.edit_history.specs.Events.{fate_of_change, happening_of, happening_rule, link_fates, rule_by}
use Rattle.edit_history.specs.Exchange.{SwapData}
use Rattle.edit_history.specs.Applied.{Planned, IsRefused}
use Rattle.edit_history.specs.steps.Plans.{swaps_from}
use Rattle.edit_history.specs.steps.Happening.{AreSwapsOf, IsRefusalOf, swap_by, fault_by}
use Rattle.edit_history.proofs.ChangedSlots.{all_swapped}
use Rattle.edit_history.proofs.DepartureFates.{departure_carried_out, departure_made, departure_ruled}
use Rattle.edit_history.proofs.FatesBySlot.{IsSafeFate, IsSafe, fates_carried_out}
use Rattle.edit_history.proofs.RulesCarriedOut.{planned_here, event_refused_as}

-- ---- the fates are safe

links_safe : (db : Lists) (edit : LinkEdit) → IsSafe (link_fates db edit)
links_safe db edit head x accepted = by_outcome (outcome_of db edit head x) refl where
  by_outcome : (c : LsaChange) → outcome_of db edit head x ≡ c → IsSafeFate x (fate_of_change c)
  by_outcome kept is = tt
  by_outcome (becomes None) is = tt
  by_outcome (becomes (Some new)) is = outcome_safe db edit head x new accepted is

-- ---- the plan

-- the rule of an event is that of what happens
event_ruled : (db : Lists) (event : Event) (happens : Happening) → happens ≡ happening_of db event → rule_of db (of_event event) ≡ happening_rule db happens
unfolding rule_of
event_ruled db event happens is = ap (happening_rule db) (sym is)

pub happening_planned : (d : Slots) (event : Event) (happens : Happening) (items : List SwapData) → IsDatabase (lists_of d)
    → happens ≡ happening_of (lists_of d) event → AreSwapsOf d happens items → Planned d d (of_event event) items
happening_planned d event (OfLinks e) items sound is (changes, are, made) =
    let fates : Fates = link_fates (lists_of d) are.edit in
    planned_here d (of_event event) (by_fates fates) (swaps_from fates 0 d) items
    (event_ruled (lists_of d) event (OfLinks e) is ∙ ap (rule_by (lists_of d)) are.links)
    (fates_carried_out fates d (links_safe (lists_of d) are.edit) sound)
    (made ∙ ap (map swap_by) are.slots ∙ all_swapped (outcome_of (lists_of d) are.edit) 0 d)
happening_planned d event (Departs e) items sound is (changes, are, made, fit) =
    planned_here d (of_event event) _ _ items (event_ruled (lists_of d) event (Departs e) is ∙ departure_ruled d e changes items are made fit)
    (departure_carried_out d e changes items are made sound fit) (departure_made d e changes items are made)

-- ---- refusals

pub happening_refused : (d : Slots) (event : Event) (happens : Happening) (fault : EditFault) → happens ≡ happening_of (lists_of d) event
    → IsRefusalOf d happens fault → IsRefused d (of_event event) fault
happening_refused d event happens fault is refused = record {
  known = λ other. (event_refused_as d event fault (event_ruled (lists_of d) event happens is ∙ refused other)).known other;
  memory = λ no _. absurd (true≢false no);
}

pub no_memory : (d : Slots) (happens : Happening) → IsRefusalOf d happens OutOfMemory
no_memory d happens other = absurd (other refl)

carried_err : (db : Lists) (r : Result LinkEdit EventFault) (fault : EventFault) → carried db r ≡ Err fault → r ≡ Err fault
carried_err db (Ok edit) fault is = absurd cc
carried_err db (Err other) fault is =
    let same : other ≡ fault = cc in ap (λ (f : EventFault). let r : Result LinkEdit EventFault = Err f in r) same

pub links_refused : (d : Slots) (event : LinkEvent) (fault : ChangeFault) → IsRefusal fault (link_event (lists_of d) event)
    → IsRefusalOf d (OfLinks event) (fault_by fault)
links_refused d event (Refused fault) refused other =
    ap (rule_by (lists_of d)) (carried_err (lists_of d) (resolved (lists_of d) event) fault refused)
links_refused d event memory refused other = absurd (other refl)

-- ---- the swaps of links

pub links_swapped : (d : Slots) (event : LinkEvent) (changes : List SlotChangeData) (items : List SwapData) → AreChanges d event changes
    → items ≡ map swap_by changes → AreSwapsOf d (OfLinks event) items
links_swapped d event changes items are made = (changes, are, made)
