-- Departures that happen, and those that are refused.
use Rattle.std.proofs.Common.{◌≡◌, ℕ, true, false, List, length, map, Option, Some, None, Result, Ok, Err, sym, ap, ◌∙◌}
use Rattle.std.specs.Prelude.{◌==◌}
use Rattle.std.proofs.lemmas.List.Folds.{list_all-map}
use Rattle.lsa_codec.specs.declared.address.AreaId.{AreaId}
use Rattle.lsdb.specs.Lists.{Lists}
use Rattle.lsdb.specs.Slots.{Slots, lists_of}
use Rattle.event_links.specs.Selections.{area_ids}
use Rattle.event_lsas.specs.Outcomes.{after, SlotChangeData}
use Rattle.event_lsas.specs.SlotChanges.{changes_from}
use Rattle.network_departures.specs.declared.departure.Departure.{Departure}
use Rattle.network_departures.specs.Leaving.{networks_left}
use Rattle.departures.specs.declared.fault.DepartureFault.{DepartureFault}
use Rattle.departures.specs.declared.fault.DepartureFault.TheVariants.{NoRouter, NotOnNetwork, NotMade, OutOfMemory}
use Rattle.departures.specs.Departures.{all_zero, leaves_nothing, outcome_of, fault_of, unless_fault, departure, AreDepartures, IsRefusal, is_late}

happens : (db : Lists) (event : Departure) → fault_of db event ≡ None → departure db event ≡ Ok (after (outcome_of db event) db)
happens db event none = ap (λ (o : Option DepartureFault). unless_fault o (after (outcome_of db event) db)) none

-- the slots that change where a departure is not refused
pub happen : (d : Slots) (event : Departure) (changes : List SlotChangeData) → fault_of (lists_of d) event ≡ None
    → changes ≡ changes_from (outcome_of (lists_of d) event) 0 d → AreDepartures d event changes
happen d event changes none slots = record { happens = happens (lists_of d) event none; slots = slots }

refusal : (fault : DepartureFault) (answer : Result Lists DepartureFault) → answer ≡ Err fault → IsRefusal fault answer
refusal (NoRouter router) answer is = is
refusal (NotOnNetwork router net) answer is = is
refusal (NotMade fault) answer is = tt
refusal OutOfMemory answer is = tt

pub refused : (db : Lists) (event : Departure) (fault : DepartureFault) → fault_of db event ≡ Some fault → IsRefusal fault (departure db event)
refused db event fault is =
    refusal fault (departure db event) (ap (λ (o : Option DepartureFault). unless_fault o (after (outcome_of db event) db)) is)

pub late : (fault : DepartureFault) (answer : Result Lists DepartureFault) → is_late fault ≡ true → IsRefusal fault answer
late (NoRouter router) answer is = absurd (let e : true ≡ false = sym is in cc)
late (NotOnNetwork router net) answer is = absurd (let e : true ≡ false = sym is in cc)
late (NotMade fault) answer is = tt
late OutOfMemory answer is = tt

-- ---- routers that are on no such network

abbrev left_in : Lists → Departure → AreaId → ℕ
left_in db event area = length (networks_left db event area)

pub nothing_counted : (db : Lists) (event : Departure) (areas : List AreaId) (counts : List ℕ) → areas ≡ area_ids db → counts ≡ map (left_in db event) areas
    → all_zero counts ≡ leaves_nothing db event
nothing_counted db event areas counts is made =
    ap all_zero (made ∙ ap (map (left_in db event)) is)
    ∙ list_all-map (λ (count : ℕ). count == 0) (left_in db event) (area_ids db)
