-- The changes of a section by its area, or those of AS scope.
use Rattle.std.proofs.Common.{◌≡◌, ℕ, Bool, List, ◌++◌, Option, Some, None, refl, ap, ◌∙◌}
use Rattle.std.specs.Option.{option_map}
use Rattle.lsa_codec.specs.declared.address.AreaId.{AreaId}
use Rattle.lsdb.specs.declared.section.Section.TheVariants.{Area, AsWide}
use Rattle.lsdb.specs.Lists.{AreaHead, Lists, id_and_kind}
use Rattle.lsdb.specs.Slots.{Slot}
use Rattle.event_links.specs.Selections.{id_of}
use Rattle.event_lsas.specs.Outcomes.{section_name, SlotChangeData}
use Rattle.event_lsas.specs.SlotChanges.{section_changes}
use Rattle.network_departures.specs.declared.departure.Departure.{Departure}
use Rattle.departures.specs.Departures.{area_lsa_after, as_lsa_after, outcome_of}

area_or : AreaId → Option (AreaId × Bool) → AreaId
area_or other None = other
area_or other (Some found) = found.0

module _ (db : Lists) (event : Departure) (number : ℕ) (slots : List Slot) where
  abbrev pub in_section : Option AreaHead → List SlotChangeData
  in_section head = section_changes (outcome_of db event head) number (section_name head) 0 slots

  pub of_area : (head : Option AreaHead) (area : AreaId) (kind : Bool) → Some (area, kind) ≡ option_map id_and_kind head
      → section_changes (area_lsa_after db event area) number (Area area) 0 slots ≡ in_section head
  unfolding area_or
  of_area None area kind is = absurd cc
  of_area (Some head) area kind is =
      let same : area ≡ id_of head = ap (area_or area) is in
      ap (λ (a : AreaId). section_changes (area_lsa_after db event a) number (Area a) 0 slots) same

  pub of_as : (head : Option AreaHead) → None ≡ option_map id_and_kind head
      → section_changes (as_lsa_after event) number AsWide 0 slots ≡ in_section head
  of_as None is = refl
  of_as (Some head) is = absurd cc

  -- after the changes of the sections before
  pub added_area : (head : Option AreaHead) (area : AreaId) (kind : Bool) (old new : List SlotChangeData) → Some (area, kind) ≡ option_map id_and_kind head
      → new ≡ old ++ section_changes (area_lsa_after db event area) number (Area area) 0 slots → new ≡ old ++ in_section head
  added_area head area kind old new is added = added ∙ ap (λ (cs : List SlotChangeData). old ++ cs) (of_area head area kind is)

  pub added_as : (head : Option AreaHead) (old new : List SlotChangeData) → None ≡ option_map id_and_kind head
      → new ≡ old ++ section_changes (as_lsa_after event) number AsWide 0 slots → new ≡ old ++ in_section head
  added_as head old new is added = added ∙ ap (λ (cs : List SlotChangeData). old ++ cs) (of_as head is)
