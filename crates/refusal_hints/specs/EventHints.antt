-- Which word of an event is at fault, and what would have been right, by the reason of its refusal.
use Rattle.std.specs.Prelude.{ℕ, List, ◌++◌, map, codes, Some, None, if◌then◌else◌}
use Rattle.std.specs.Option.{is_some}
use Rattle.lsa_codec.specs.Spelling.{address_text}
use Rattle.lsa_codec.specs.declared.address.Addr.{Addr}
use Rattle.lsa_codec.specs.declared.address.RouterId.{RouterId}
use Rattle.lsdb.specs.Lists.{Lists}
use Rattle.edit_script.specs.declared.event.Event.{Event}
use Rattle.edit_script.specs.declared.event.Event.TheVariants as event
use Rattle.edit_history.specs.declared.fault.EditFault.{EditFault}
use Rattle.edit_history.specs.declared.fault.EditFault.TheVariants as fault
use Rattle.study_text.specs.Lists.{joined_or}
use Rattle.refusal_hints.specs.declared.router_links.Sought.{Sought}
use Rattle.refusal_hints.specs.declared.router_links.Sought.TheVariants.{Neighbors, AddressesTo, Addresses}
use Rattle.refusal_hints.specs.Advice.{AdviceValue, advice}
use Rattle.refusal_hints.specs.Described.{area_with}
use Rattle.refusal_hints.specs.LimitHints.{limit_advice}
use Rattle.refusal_hints.specs.Nearest.{has_nearest}
use Rattle.refusal_hints.specs.NetworkHints.{networks_hint}
use Rattle.refusal_hints.specs.RouterHints.{anywhere_hint}
use Rattle.refusal_hints.specs.RouterLinks.{sought}

-- ---- hints

-- addresses by their numbers
abbrev pub addresses_of : List ℕ → List Addr
addresses_of numbers = map (λ number. record { 0 = number }) numbers

-- ` has 1.1.1.1, 3.3.3.3`
abbrev pub has_those : List ℕ → List ℕ
has_those numbers = joined_or (codes " has none") (codes " has ") (codes ", ") (map address_text numbers)

-- `2.2.2.2 and 9.9.9.9 are not neighbors; 2.2.2.2 has 1.1.1.1, 3.3.3.3`
abbrev pub neighbors_hint : Lists → RouterId → Addr → List ℕ
neighbors_hint db router other =
    address_text router.0 ++ codes " and " ++ address_text other.0 ++ codes " are not neighbors; " ++ address_text router.0
    ++ has_those (sought Neighbors db router)

-- `2.2.2.2 has 10.0.12.2`, of the addresses that are sought the one that is most like another
abbrev pub address_hint : Sought → Lists → RouterId → Addr → List ℕ
address_hint what db router address = address_text router.0 ++ has_nearest (codes " has no such link") address.0 (sought what db router)

-- the far end of an interface is no neighbor, if it is a router, or no address
abbrev pub far_hint : Lists → RouterId → Addr → List ℕ
far_hint db router far =
    if is_some (area_with db (record { 0 = far.0 })) then neighbors_hint db router far else address_hint Addresses db router far

-- ---- events

abbrev pub one_router_advice : Lists → RouterId → EditFault → AdviceValue
one_router_advice db router fault.NoRouter = advice 1 (anywhere_hint db router)
one_router_advice db router fault.KeyTaken = advice 1 (codes "the next Designated Router has a network-LSA with that address")
one_router_advice db router why = limit_advice why

-- `cut ROUTER PREFIX`
abbrev pub leave_advice : Lists → RouterId → EditFault → AdviceValue
leave_advice db router fault.NotOnNetwork = advice 2 (networks_hint db router)
leave_advice db router why = one_router_advice db router why

-- of two routers the first that no area has
abbrev pub either_advice : Lists → RouterId → RouterId → AdviceValue
either_advice db router neighbor =
    if is_some (area_with db router) then advice 2 (anywhere_hint db neighbor) else advice 1 (anywhere_hint db router)

-- an event of two routers, the second by its Router ID
abbrev pub two_routers_advice : Lists → RouterId → Addr → EditFault → AdviceValue
two_routers_advice db router other fault.NoRouter = either_advice db router (record { 0 = other.0 })
two_routers_advice db router other fault.SameRouter = advice 2 (codes "name the two ends")
two_routers_advice db router other fault.NotNeighbors = advice 2 (neighbors_hint db router other)
two_routers_advice db router other why = limit_advice why

-- `cut ROUTER NEIGHBOR [ADDRESS]`
abbrev pub cut_advice : Lists → RouterId → RouterId → Addr → EditFault → AdviceValue
cut_advice db router neighbor address fault.NoInterface = advice 3 (address_hint (AddressesTo neighbor) db router address)
cut_advice db router neighbor address fault.UnclearEnd = advice 3 (codes "several links look the same: cut them all")
cut_advice db router neighbor address why = two_routers_advice db router (record { 0 = neighbor.0 }) why

-- `set-cost ROUTER FAR METRIC [both]`
abbrev pub cost_advice : Lists → RouterId → Addr → EditFault → AdviceValue
cost_advice db router far fault.NoInterface = advice 2 (far_hint db router far)
cost_advice db router far fault.ZeroCost = advice 3 (codes "a link of this type costs 1 to 65535")
cost_advice db router far why = two_routers_advice db router far why

-- an event that is refused in a database
abbrev pub event_advice : Lists → Event → EditFault → AdviceValue
event_advice db (event.Cut router neighbor None) why = two_routers_advice db router (record { 0 = neighbor.0 }) why
event_advice db (event.Cut router neighbor (Some address)) why = cut_advice db router neighbor address why
event_advice db (event.Leave router prefix) why = leave_advice db router why
event_advice db (event.SetCost router far metric both) why = cost_advice db router far why
event_advice db (event.Drain router) why = one_router_advice db router why
event_advice db (event.Fail router) why = one_router_advice db router why
