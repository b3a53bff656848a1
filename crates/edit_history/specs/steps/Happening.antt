-- The swaps of the slots that an event changes, and its refusals.
use Rattle.std.specs.Prelude.{◌≡◌, ◌≢◌, Bool, true, List, map, Err}
use Rattle.lsdb.specs.Slots.{Slots, lists_of}
use Rattle.event_lsas.specs.LinkEvents.{AreChanges}
use Rattle.event_lsas.specs.Outcomes.{SlotChangeData}
use Rattle.event_lsas.specs.declared.fault.ChangeFault.{ChangeFault}
use Rattle.event_lsas.specs.declared.fault.ChangeFault.TheVariants as change
use Rattle.departures.specs.Departures.{AreDepartures}
use Rattle.edit_history.specs.declared.fault.EditFault.{EditFault}
use Rattle.edit_history.specs.declared.fault.EditFault.TheVariants.{OutOfMemory}
use Rattle.edit_history.specs.declared.happening.Happening.{Happening}
use Rattle.edit_history.specs.declared.happening.Happening.TheVariants.{OfLinks, Departs}
use Rattle.edit_history.specs.Events.{happening_rule, refusal_of}
use Rattle.edit_history.specs.Exchange.{SwapData}
use Rattle.edit_history.specs.Fitting.{all_fit}
use Rattle.edit_history.specs.steps.Plans.{planned_change}

abbrev pub swap_by : SlotChangeData → SwapData
swap_by c = record { slot = c.slot; section = c.section; kind = c.kind; other = c.new }

abbrev pub fault_by : ChangeFault → EditFault
fault_by (change.Refused fault) = refusal_of fault
fault_by change.OutOfMemory = OutOfMemory

-- the database has a place for what the swaps bring
abbrev pub swaps_fit : Slots → List SwapData → Bool
swaps_fit d ss = all_fit (lists_of d) (map (planned_change d) ss)

-- these are the swaps of what happens
abbrev pub AreSwapsOf : Slots → Happening → List SwapData → Type 0
AreSwapsOf d (OfLinks event) swaps = (changes : List SlotChangeData) × AreChanges d event changes × (swaps ≡ map swap_by changes)
AreSwapsOf d (Departs event) swaps =
    (changes : List SlotChangeData) × AreDepartures d event changes × (swaps ≡ map swap_by changes) × (swaps_fit d swaps ≡ true)

-- it is refused; want of memory says nothing of it
abbrev pub IsRefusalOf : Slots → Happening → EditFault → Type 0
IsRefusalOf d happens fault = fault ≢ OutOfMemory → happening_rule (lists_of d) happens ≡ Err fault
