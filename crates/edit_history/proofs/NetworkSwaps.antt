-- Where a network is removed, LSAs stay whose filter does not have it.
use Rattle.std.proofs.Common.{◌≡◌, ℕ, suc, ◌==◌, ◌&&◌, ◌<◌, Bool, true, false, List, ◌++◌, drop, length, get_or, Option, Some, None, Ok, Err, refl, sym, ap, ◌∙◌}
use Rattle.std.specs.Prelude.{filter, not, option_to_list, if◌then◌else◌}
use Rattle.std.specs.List.{list_any}
use Rattle.std.proofs.lemmas.Bool.{eqb-true}
use Rattle.std.proofs.lemmas.List.{append-nil}
use Rattle.std.proofs.lemmas.Option.{slice_get-get_or}
use Rattle.lsa_codec.specs.declared.address.Addr.{Addr}
use Rattle.lsa_codec.specs.Fields.{kind_of, link_state_id_of}
use Rattle.lsa_codec.specs.Links.{links_of}
use Rattle.lsa_codec.specs.LsTypes.{router_lsa, network_lsa}
use Rattle.lsa_codec.specs.declared.fault.MakeFault.TheVariants.{NoLink}
use Rattle.lsa_codec.specs.Making.{leads_to_net, with_links, without_links}
use Rattle.lsdb.specs.declared.section.Section.{Section}
use Rattle.lsdb.specs.declared.transit_filters.TransitFilter.{TransitFilter}
use Rattle.lsdb.specs.Lists.{is_network}
use Rattle.lsdb.specs.Slots.{Slot, Slots, item_at, slots_in, slot_at}
use Rattle.lsdb.specs.TransitFilters.{is_of_network, may_have, AreTransitFilters}
use Rattle.edit_history.specs.Rules.{stays, removed}
use Rattle.edit_history.specs.Effect.{cut, net_fate}
use Rattle.edit_history.specs.Exchange.{SwapData}
use Rattle.edit_history.specs.steps.Plans.{slot_swap, section_swaps, slot_of, swap_for}
use Rattle.edit_history.proofs.FailureFates.{slot_turn}
use Rattle.edit_history.proofs.Searches.{here, slot_there}

-- an LSA that is not of a network stays where the network is removed
net_stays : (network : Addr) (lsa : List ℕ) → is_of_network network lsa ≡ false → net_fate network lsa ≡ stays
net_stays network lsa other = by_router (kind_of lsa == router_lsa) refl other where
  by_router : (b : Bool) → (kind_of lsa == router_lsa) ≡ b
      → (if b then list_any (leads_to_net network) (links_of lsa) else is_network network lsa) ≡ false
      → (if is_network network lsa then removed else if b then cut (without_links (leads_to_net network) lsa) else stays) ≡ stays
  by_router true is none =
      let kind : kind_of lsa ≡ router_lsa = eqb-true _ _ is in
      ap (λ (k : ℕ). if (k == network_lsa) && (link_state_id_of lsa == network.0) then removed else cut (without_links (leads_to_net network) lsa)) kind
      ∙ ap (λ (c : Bool). cut (if c then Ok (with_links (filter (λ link. not (leads_to_net network link)) (links_of lsa)) lsa) else Err NoLink)) none
  by_router false is none = ap (λ (c : Bool). if c then removed else stays) none

-- the LSA at a slot is not of a network that its filter does not have
pub not_of : (network : Addr) (slots : List Slot) (filters : List TransitFilter) (i : ℕ) (d : TransitFilter) (lsa : List ℕ)
    → AreTransitFilters slots filters → i < length filters → may_have network (get_or filters i d) ≡ false
    → item_at slots i ≡ Some (Some lsa) → is_of_network network lsa ≡ false
not_of network slots filters i d lsa are lt may at = by_own (is_of_network network lsa) refl where
  by_own : (b : Bool) → is_of_network network lsa ≡ b → b ≡ false
  by_own true own = sym (are.whole i lsa (get_or filters i d) network at (slice_get-get_or filters i d lt) own) ∙ may
  by_own false own = refl

-- the swaps are as they were
pub slot_passed : (network : Addr) (d : Slots) (section : ℕ) (name : Section) (i j : ℕ) (filters : List TransitFilter) (none : TransitFilter)
    (swaps total : List SwapData)
    → AreTransitFilters (slots_in d section) filters → i < length filters → may_have network (get_or filters i none) ≡ false → j ≡ suc i
    → swaps ++ section_swaps (net_fate network) section name i (drop i (slots_in d section)) ≡ total
    → swaps ++ section_swaps (net_fate network) section name j (drop j (slots_in d section)) ≡ total
slot_passed network d section name i j filters none swaps total are lt may e so_far =
    let within : i < length (slots_in d section) = rw (sym are.count) lt in
    let h = here (slots_in d section) i j within e in
    let no_swap : slot_swap (net_fate network) (slot_of section i) name (slot_at d (slot_of section i)) ≡ None =
    ap (slot_swap (net_fate network) (slot_of section i) name) (slot_there d section i h.item h.at)
    ∙ by_item h.item (λ lsa at. net_stays network lsa (not_of network (slots_in d section) filters i none lsa are lt may (h.at ∙ at))) in
    slot_turn (net_fate network) d section name i j swaps swaps total within e
    (sym (ap (λ (o : Option SwapData). swaps ++ option_to_list o) no_swap ∙ append-nil swaps)) so_far
  where
    by_item : (slot : Slot)
        → ((lsa : List ℕ) → (let o : Option Slot = Some slot in o) ≡ Some (Some lsa) → net_fate network lsa ≡ stays)
        → slot_swap (net_fate network) (slot_of section i) name (Some slot) ≡ None
    by_item None stay = refl
    by_item (Some lsa) stay = ap (swap_for (slot_of section i) name lsa) (stay lsa refl)
