-- The edits by which links, networks and routers fail: their refusals, and their rules.
use Rattle.std.proofs.Common.{◌≡◌, ℕ, Bool, true, false, List, Option, Some, None, Result, Ok, Err, refl, sym, ap, ◌∙◌}
use Rattle.std.specs.Prelude.{◌==◌, if◌then◌else◌}
use Rattle.std.specs.List.{find}
use Rattle.lsa_codec.specs.Key.{router_key}
use Rattle.lsa_codec.specs.declared.address.Addr.{Addr}
use Rattle.lsa_codec.specs.declared.address.AreaId.{AreaId}
use Rattle.lsa_codec.specs.declared.address.RouterId.{RouterId}
use Rattle.lsdb.specs.declared.section.Section.TheVariants.{Area}
use Rattle.lsdb.specs.declared.slot.SlotId.{SlotId}
use Rattle.lsdb.specs.Lists.{SectionLsas, Lists, has_key, lsas_of, is_network}
use Rattle.lsdb.specs.Slots.{Slots, lists_of, IsNamed}
use Rattle.edit_script.specs.declared.edit.Edit.TheVariants.{FailLink, FailNet, FailRouter}
use Rattle.edit_history.specs.declared.fault.EditFault.{EditFault}
use Rattle.edit_history.specs.declared.fault.EditFault.TheVariants.{NoRouter, NoLink, SameRouter, NoNetwork}
use Rattle.edit_history.specs.Rules.{Rule, by_fates, within}
use Rattle.edit_history.specs.Effect.{area_of, router_lsa_in, or_refused, has_router, are_linked, link_fate, net_fate, router_fate, rule_of, ◌>>=◌}
use Rattle.edit_history.specs.Applied.{IsRefused}
use Rattle.edit_history.specs.steps.Plans.{IsFirstLsa}
use Rattle.edit_history.proofs.NamedLsas.{has_area, named_there, no_router_in, router_in}
use Rattle.edit_history.proofs.RulesCarriedOut.{refused_as, on_ok, on_err}

-- ---- links between two routers

abbrev linked_rule : AreaId → RouterId → RouterId → Bool → Result Rule EditFault
linked_rule area router neighbor linked = if linked then Ok (within (Area area) (link_fate router neighbor)) else Err NoLink

abbrev other_rule : AreaId → RouterId → RouterId → SectionLsas → List ℕ → Result Rule EditFault
other_rule area router neighbor section lsa =
    router_lsa_in section neighbor >>= λ other. linked_rule area router neighbor (are_linked router neighbor lsa other)

abbrev both_rule : AreaId → RouterId → RouterId → SectionLsas → Result Rule EditFault
both_rule area router neighbor section = router_lsa_in section router >>= other_rule area router neighbor section

abbrev apart_rule : AreaId → RouterId → RouterId → SectionLsas → Bool → Result Rule EditFault
apart_rule area router neighbor section same = if same then Err SameRouter else both_rule area router neighbor section

pub link_row : (db : Lists) (area : AreaId) (router neighbor : RouterId)
    → rule_of db (FailLink area router neighbor) ≡ (area_of db area >>= λ section. apart_rule area router neighbor section (router.0 == neighbor.0))
unfolding rule_of
link_row db area router neighbor = refl

-- the area is there
link_in : (d : Slots) (area : AreaId) (router neighbor : RouterId) (number : ℕ) (same : Bool) (answer : Result Rule EditFault)
    → IsNamed d (Area area) number → (router.0 == neighbor.0) ≡ same
    → ((section : SectionLsas) → lsas_of (Area area) (lists_of d) ≡ section.lsas → apart_rule area router neighbor section same ≡ answer)
    → rule_of (lists_of d) (FailLink area router neighbor) ≡ answer
link_in d area router neighbor number same answer named is rest =
    let h = has_area (lists_of d) area (named_there d (Area area) number named) in
    link_row (lists_of d) area router neighbor
    ∙ on_ok (area_of (lists_of d) area) h.section (λ section. apart_rule area router neighbor section (router.0 == neighbor.0)) h.is
    ∙ ap (apart_rule area router neighbor h.section) is
    ∙ rest h.section h.lsas

pub link_same : (d : Slots) (area : AreaId) (router neighbor : RouterId) (number : ℕ) → IsNamed d (Area area) number
    → (router.0 == neighbor.0) ≡ true → IsRefused d (FailLink area router neighbor) SameRouter
link_same d area router neighbor number named is =
    refused_as d (FailLink area router neighbor) SameRouter (λ e. cc)
    (link_in d area router neighbor number true (Err SameRouter) named is (λ section lsas. refl))

pub link_no_router : (d : Slots) (area : AreaId) (router neighbor : RouterId) (number : ℕ) → IsNamed d (Area area) number
    → (router.0 == neighbor.0) ≡ false → find (has_key (router_key router)) (lsas_of (Area area) (lists_of d)) ≡ None
    → IsRefused d (FailLink area router neighbor) NoRouter
link_no_router d area router neighbor number named is none =
    refused_as d (FailLink area router neighbor) NoRouter (λ e. cc)
    (link_in d area router neighbor number false (Err NoRouter) named is
    (λ section lsas. on_err (router_lsa_in section router) NoRouter (other_rule area router neighbor section)
    (no_router_in (lists_of d) area router section lsas none)))

pub link_no_neighbor : (d : Slots) (area : AreaId) (router neighbor : RouterId) (number : ℕ) (slot : SlotId) (lsa : List ℕ)
    → IsNamed d (Area area) number → (router.0 == neighbor.0) ≡ false → IsFirstLsa d (Area area) (has_key (router_key router)) slot lsa
    → find (has_key (router_key neighbor)) (lsas_of (Area area) (lists_of d)) ≡ None → IsRefused d (FailLink area router neighbor) NoRouter
link_no_neighbor d area router neighbor number slot lsa named is at none =
    refused_as d (FailLink area router neighbor) NoRouter (λ e. cc)
    (link_in d area router neighbor number false (Err NoRouter) named is
    (λ section lsas. on_ok (router_lsa_in section router) lsa (other_rule area router neighbor section)
    (router_in (lists_of d) area router section lsa lsas at.first)
    ∙ on_err (router_lsa_in section neighbor) NoRouter (λ other. linked_rule area router neighbor (are_linked router neighbor lsa other))
    (no_router_in (lists_of d) area neighbor section lsas none)))

both_there : (d : Slots) (area : AreaId) (router neighbor : RouterId) (number : ℕ) (slot : SlotId) (lsa : List ℕ) (other_slot : SlotId) (other : List ℕ)
    (linked : Bool) → IsNamed d (Area area) number → (router.0 == neighbor.0) ≡ false
    → IsFirstLsa d (Area area) (has_key (router_key router)) slot lsa → IsFirstLsa d (Area area) (has_key (router_key neighbor)) other_slot other
    → are_linked router neighbor lsa other ≡ linked
    → rule_of (lists_of d) (FailLink area router neighbor) ≡ linked_rule area router neighbor linked
both_there d area router neighbor number slot lsa other_slot other linked named is at there links =
    link_in d area router neighbor number false (linked_rule area router neighbor linked) named is
    (λ section lsas. on_ok (router_lsa_in section router) lsa (other_rule area router neighbor section)
    (router_in (lists_of d) area router section lsa lsas at.first)
    ∙ on_ok (router_lsa_in section neighbor) other (λ other. linked_rule area router neighbor (are_linked router neighbor lsa other))
    (router_in (lists_of d) area neighbor section other lsas there.first)
    ∙ ap (linked_rule area router neighbor) links)

pub link_none : (d : Slots) (area : AreaId) (router neighbor : RouterId) (number : ℕ) (slot : SlotId) (lsa : List ℕ) (other_slot : SlotId)
    (other : List ℕ) → IsNamed d (Area area) number → (router.0 == neighbor.0) ≡ false
    → IsFirstLsa d (Area area) (has_key (router_key router)) slot lsa → IsFirstLsa d (Area area) (has_key (router_key neighbor)) other_slot other
    → are_linked router neighbor lsa other ≡ false → IsRefused d (FailLink area router neighbor) NoLink
link_none d area router neighbor number slot lsa other_slot other named is at there links =
    refused_as d (FailLink area router neighbor) NoLink (λ e. cc)
    (both_there d area router neighbor number slot lsa other_slot other false named is at there links)

pub link_ruled : (d : Slots) (area : AreaId) (router neighbor : RouterId) (number : ℕ) (slot : SlotId) (lsa : List ℕ) (other_slot : SlotId)
    (other : List ℕ) → IsNamed d (Area area) number → (router.0 == neighbor.0) ≡ false
    → IsFirstLsa d (Area area) (has_key (router_key router)) slot lsa → IsFirstLsa d (Area area) (has_key (router_key neighbor)) other_slot other
    → are_linked router neighbor lsa other ≡ true
    → rule_of (lists_of d) (FailLink area router neighbor) ≡ Ok (within (Area area) (link_fate router neighbor))
link_ruled d area router neighbor number slot lsa other_slot other named is at there links =
    both_there d area router neighbor number slot lsa other_slot other true named is at there links

-- ---- a network

abbrev net_found : AreaId → Addr → Result (List ℕ) EditFault → Result Rule EditFault
net_found area network found = found >>= λ lsa. Ok (within (Area area) (net_fate network))

pub net_row : (db : Lists) (area : AreaId) (network : Addr)
    → rule_of db (FailNet area network) ≡ (area_of db area >>= λ section. net_found area network
    (or_refused NoNetwork (find (is_network network) section.lsas)))
unfolding rule_of
net_row db area network = refl

net_in : (d : Slots) (area : AreaId) (network : Addr) (number : ℕ) (found : Option (List ℕ)) → IsNamed d (Area area) number
    → find (is_network network) (lsas_of (Area area) (lists_of d)) ≡ found
    → rule_of (lists_of d) (FailNet area network) ≡ net_found area network (or_refused NoNetwork found)
net_in d area network number found named is =
    let h = has_area (lists_of d) area (named_there d (Area area) number named) in
    net_row (lists_of d) area network
    ∙ on_ok (area_of (lists_of d) area) h.section (λ section. net_found area network
    (or_refused NoNetwork (find (is_network network) section.lsas))) h.is
    ∙ ap (λ (o : Option (List ℕ)). net_found area network (or_refused NoNetwork o)) (ap (find (is_network network)) (sym h.lsas) ∙ is)

pub net_none : (d : Slots) (area : AreaId) (network : Addr) (number : ℕ) → IsNamed d (Area area) number
    → find (is_network network) (lsas_of (Area area) (lists_of d)) ≡ None → IsRefused d (FailNet area network) NoNetwork
net_none d area network number named none = refused_as d (FailNet area network) NoNetwork (λ e. cc) (net_in d area network number None named none)

pub net_ruled : (d : Slots) (area : AreaId) (network : Addr) (number : ℕ) (lsa : List ℕ) → IsNamed d (Area area) number
    → find (is_network network) (lsas_of (Area area) (lists_of d)) ≡ Some lsa
    → rule_of (lists_of d) (FailNet area network) ≡ Ok (within (Area area) (net_fate network))
net_ruled d area network number lsa named first = net_in d area network number (Some lsa) named first

-- ---- a router

abbrev router_rule : RouterId → Bool → Result Rule EditFault
router_rule router there = if there then Ok (by_fates (λ head. router_fate router)) else Err NoRouter

router_row : (db : Lists) (router : RouterId) → rule_of db (FailRouter router) ≡ router_rule router (has_router router db)
unfolding rule_of
router_row db router = refl

pub router_none : (d : Slots) (router : RouterId) → has_router router (lists_of d) ≡ false → IsRefused d (FailRouter router) NoRouter
router_none d router none = refused_as d (FailRouter router) NoRouter (λ e. cc) (router_row (lists_of d) router ∙ ap (router_rule router) none)

pub router_ruled : (d : Slots) (router : RouterId) → has_router router (lists_of d) ≡ true
    → rule_of (lists_of d) (FailRouter router) ≡ Ok (by_fates (λ head. router_fate router))
router_ruled d router there = router_row (lists_of d) router ∙ ap (router_rule router) there
