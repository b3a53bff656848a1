-- Routers that go: the swaps of the slots that change carry their fates out, and a refusal is one of the departure.
use Rattle.std.proofs.Common.{◌≡◌, true, false, List, map, Option, Some, None, Ok, Err, refl, sym, ap, ◌∙◌}
use Rattle.std.proofs.lemmas.Bool.{cond-true, cond-false}
use Rattle.lsdb.specs.Lists.{Lists, IsDatabase}
use Rattle.lsdb.specs.Slots.{Slots, lists_of}
use Rattle.event_lsas.specs.Outcomes.{SlotChangeData}
use Rattle.network_departures.specs.declared.departure.Departure.{Departure}
use Rattle.departures.specs.declared.fault.DepartureFault.{DepartureFault}
use Rattle.departures.specs.declared.fault.DepartureFault.TheVariants as departure
use Rattle.departures.specs.Departures.{AreDepartures, IsRefusal, departure as departed, fault_of as fault_of_departure, outcome_of as outcome_of_departure, unless_fault}
use Rattle.edit_history.specs.Rules.{by_fates, changes_by}
use Rattle.edit_history.specs.declared.fault.EditFault.TheVariants.{KeyTaken}
use Rattle.edit_history.specs.declared.happening.Happening.TheVariants.{Departs}
use Rattle.edit_history.specs.Events.{departure_fates, departure_refusal, happening_rule, rule_unless}
use Rattle.edit_history.specs.Exchange.{SwapData}
use Rattle.edit_history.specs.Fitting.{all_fit}
use Rattle.edit_history.specs.steps.Plans.{planned_change, swaps_from}
use Rattle.edit_history.specs.steps.Happening.{AreSwapsOf, IsRefusalOf, swap_by, swaps_fit}
use Rattle.edit_history.proofs.ChangedSlots.{all_swapped}
use Rattle.edit_history.proofs.FreshFates.{fit_carried_out}
use Rattle.edit_history.proofs.PlannedChanges.{all_planned}
use Rattle.edit_history.proofs.RulesCarriedOut.{CarriesOutRule}

-- a departure that happens has no refusal
not_refused : (o : Option DepartureFault) (new after : Lists) → unless_fault o new ≡ Ok after → o ≡ None
not_refused None new after is = refl
not_refused (Some fault) new after is = absurd cc

refused_by : (o : Option DepartureFault) (new : Lists) (fault : DepartureFault) → unless_fault o new ≡ Err fault → o ≡ Some fault
refused_by None new fault is = absurd cc
refused_by (Some other) new fault is =
    let same : other ≡ fault = cc in ap (λ (f : DepartureFault). let o : Option DepartureFault = Some f in o) same

module _ (d : Slots) (event : Departure) (changes : List SlotChangeData) (items : List SwapData) (are : AreDepartures d event changes)
    (made : items ≡ map swap_by changes) where
  -- the swaps are those of the fates
  pub departure_made : items ≡ swaps_from (departure_fates (lists_of d) event) 0 d
  departure_made = made ∙ ap (map swap_by) are.slots ∙ all_swapped (outcome_of_departure (lists_of d) event) 0 d

  -- and there are places for what they bring where there are for the changes of the fates
  same_fit : swaps_fit d items ≡ all_fit (lists_of d) (changes_by (by_fates (departure_fates (lists_of d) event)) (lists_of d))
  same_fit =
      ap (all_fit (lists_of d)) (ap (map (planned_change d)) departure_made ∙ all_planned d (departure_fates (lists_of d) event))

  none_refused : fault_of_departure (lists_of d) event ≡ None
  none_refused = not_refused (fault_of_departure (lists_of d) event) _ _ are.happens

  pub departure_ruled : swaps_fit d items ≡ true
      → happening_rule (lists_of d) (Departs event) ≡ Ok (by_fates (departure_fates (lists_of d) event))
  departure_ruled fit = ap (rule_unless (lists_of d) event) none_refused ∙ cond-true _ _ _ (sym same_fit ∙ fit)

  pub departure_carried_out : IsDatabase (lists_of d) → swaps_fit d items ≡ true
      → CarriesOutRule d (by_fates (departure_fates (lists_of d) event)) (swaps_from (departure_fates (lists_of d) event) 0 d)
  departure_carried_out sound fit = fit_carried_out (departure_fates (lists_of d) event) d sound (sym same_fit ∙ fit)

  pub departure_swapped : swaps_fit d items ≡ true → AreSwapsOf d (Departs event) items
  departure_swapped fit = (changes, are, made, fit)

  -- there is no place for an LSA
  pub key_taken : swaps_fit d items ≡ false → IsRefusalOf d (Departs event) KeyTaken
  key_taken crowded other = ap (rule_unless (lists_of d) event) none_refused ∙ cond-false _ _ _ (sym same_fit ∙ crowded)

pub departure_refused : (d : Slots) (event : Departure) (fault : DepartureFault) → IsRefusal fault (departed (lists_of d) event)
    → IsRefusalOf d (Departs event) (departure_refusal fault)
departure_refused d event (departure.NoRouter router) refused other =
    ap (rule_unless (lists_of d) event) (refused_by (fault_of_departure (lists_of d) event) _ (departure.NoRouter router) refused)
departure_refused d event (departure.NotOnNetwork router net) refused other =
    ap (rule_unless (lists_of d) event) (refused_by (fault_of_departure (lists_of d) event) _ (departure.NotOnNetwork router net) refused)
departure_refused d event (departure.NotMade why) refused other = absurd (other refl)
departure_refused d event departure.OutOfMemory refused other = absurd (other refl)
