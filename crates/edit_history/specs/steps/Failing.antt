-- The fates of LSAs where something fails, by what fails.
use Rattle.std.specs.Prelude.{List, ℕ, ◌++◌, nat_le, Option, Some, None, Result, Ok, Err, option_to_list, if◌then◌else◌}
use Rattle.lsa_codec.specs.LsTypes.{router_lsa}
use Rattle.lsa_codec.specs.declared.fault.MakeFault.{MakeFault}
use Rattle.lsa_codec.specs.declared.fault.MakeFault.TheVariants as make
use Rattle.lsdb.specs.declared.section.Section.{Section}
use Rattle.lsdb.specs.declared.slot.SlotId.{SlotId}
use Rattle.lsdb.specs.Slots.{Slots, slot_at}
use Rattle.edit_history.specs.declared.failures.Failure.{Failure}
use Rattle.edit_history.specs.declared.failures.Failure.TheVariants.{Links, Network, Router}
use Rattle.edit_history.specs.declared.fault.EditFault.{EditFault}
use Rattle.edit_history.specs.declared.fault.EditFault.TheVariants.{OutOfMemory}
use Rattle.edit_history.specs.Rules.{Fate}
use Rattle.edit_history.specs.Effect.{link_fate, net_fate, router_fate}
use Rattle.edit_history.specs.Exchange.{SwapData}
use Rattle.edit_history.specs.steps.Plans.{slot_swap}

-- the fate of an LSA where this fails
abbrev pub fate_by : Failure → List ℕ → Fate
fate_by (Links router neighbor) lsa = link_fate router neighbor lsa
fate_by (Network network) lsa = net_fate network lsa
fate_by (Router router) lsa = router_fate router lsa

-- the swap of a router-LSA for a shorter one; none where no link is removed
abbrev pub shortened : SlotId → Section → Result (List ℕ) MakeFault → Result (Option SwapData) EditFault
shortened slot name (Ok new) = Ok (Some (record { slot = slot; section = name; kind = router_lsa; other = Some new }))
shortened slot name (Err make.NoLink) = Ok None
shortened slot name (Err make.ZeroCost) = Err OutOfMemory
shortened slot name (Err make.TooLong) = Err OutOfMemory
shortened slot name (Err make.OutOfMemory) = Err OutOfMemory

-- two slots of a section in their order
abbrev pub in_order : SlotId → SlotId → SlotId × SlotId
in_order one other = if nat_le one.index other.index then (one, other) else (other, one)

-- the swap that carries a fate out at a slot, if there is one
abbrev pub swaps_at_slot : (List ℕ → Fate) → Section → Slots → SlotId → List SwapData
swaps_at_slot fate name d slot = option_to_list (slot_swap fate slot name (slot_at d slot))

-- the swaps of two slots
abbrev pub pair_swaps : (List ℕ → Fate) → Section → Slots → SlotId × SlotId → List SwapData
pair_swaps fate name d slots = swaps_at_slot fate name d slots.0 ++ swaps_at_slot fate name d slots.1
