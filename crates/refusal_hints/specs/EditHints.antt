-- Which word of an edit is at fault, and what would have been right, by the reason of its refusal.
use Rattle.std.specs.Prelude.{ℕ, List, ◌++◌, codes, decimal, if◌then◌else◌}
use Rattle.lsa_codec.specs.Spelling.{address_text}
use Rattle.lsa_codec.specs.declared.address.Addr.{Addr}
use Rattle.lsa_codec.specs.declared.address.AreaId.{AreaId}
use Rattle.lsa_codec.specs.declared.address.RouterId.{RouterId}
use Rattle.lsdb.specs.Lists.{Lists, lsas_of}
use Rattle.lsdb.specs.declared.section.Section.TheVariants.{Area, AsWide}
use Rattle.edit_script.specs.declared.edit.Edit.{Edit}
use Rattle.edit_script.specs.declared.edit.Edit.TheVariants as edit
use Rattle.edit_history.specs.declared.fault.EditFault.{EditFault}
use Rattle.edit_history.specs.declared.fault.EditFault.TheVariants as fault
use Rattle.refusal_hints.specs.Advice.{AdviceValue, advice}
use Rattle.refusal_hints.specs.Described.{count_originated, is_described}
use Rattle.refusal_hints.specs.EventHints.{event_advice}
use Rattle.refusal_hints.specs.LimitHints.{limit_advice}
use Rattle.refusal_hints.specs.RouterHints.{anywhere_hint, area_hint, link_hint, network_hint, router_hint}

-- `EDIT AREA ..`
abbrev pub area_advice : Lists → AreaId → EditFault → AdviceValue
area_advice db area fault.NoArea = advice 1 (area_hint db area)
area_advice db area why = limit_advice why

-- how many summary-LSAs of the router the area has
abbrev pub summaries_hint : Lists → AreaId → RouterId → List ℕ
summaries_hint db area router =
    address_text router.0 ++ codes " has " ++ decimal (count_originated 3 router (lsas_of (Area area) db)) ++ codes " summaries in the area"

-- `EDIT AREA ROUTER ..`: a link or a prefix follows, and a metric
abbrev pub router_advice : Lists → AreaId → RouterId → EditFault → AdviceValue
router_advice db area router fault.NoRouter = advice 2 (router_hint db area router)
router_advice db area router fault.NoLink = advice 3 (link_hint db area router)
router_advice db area router fault.ZeroCost = advice 4 (codes "a link of this type costs 1 to 65535")
router_advice db area router fault.NoSummary = advice 3 (summaries_hint db area router)
router_advice db area router fault.KeyTaken = advice 3 (codes "summary changes it")
router_advice db area router fault.TooLong = advice 2 (codes "its router-LSA is full")
router_advice db area router why = area_advice db area why

-- of two routers the first that the area does not have
abbrev pub end_advice : Lists → AreaId → RouterId → RouterId → AdviceValue
end_advice db area router neighbor =
    if is_described db router area then advice 3 (router_hint db area neighbor) else advice 2 (router_hint db area router)

-- a router has no link to another one
abbrev pub no_link_hint : RouterId → List ℕ
no_link_hint router = address_text router.0 ++ codes " has no point-to-point link to it"

-- `fail-link AREA ROUTER NEIGHBOR`
abbrev pub ends_advice : Lists → AreaId → RouterId → RouterId → EditFault → AdviceValue
ends_advice db area router neighbor fault.NoRouter = end_advice db area router neighbor
ends_advice db area router neighbor fault.SameRouter = advice 3 (codes "name the two ends")
ends_advice db area router neighbor fault.NoLink = advice 3 (no_link_hint router)
ends_advice db area router neighbor why = area_advice db area why

-- `fail-net AREA ADDRESS`
abbrev pub network_advice : Lists → AreaId → Addr → EditFault → AdviceValue
network_advice db area network fault.NoNetwork = advice 2 (network_hint db area network)
network_advice db area network why = area_advice db area why

-- how many AS-external-LSAs of the router there are
abbrev pub externals_hint : Lists → RouterId → List ℕ
externals_hint db router =
    address_text router.0 ++ codes " has " ++ decimal (count_originated 5 router (lsas_of AsWide db)) ++ codes " externals"

-- `EDIT ROUTER ..`: a prefix follows
abbrev pub anywhere_advice : Lists → RouterId → EditFault → AdviceValue
anywhere_advice db router fault.NoRouter = advice 1 (anywhere_hint db router)
anywhere_advice db router fault.NoExternal = advice 2 (externals_hint db router)
anywhere_advice db router fault.KeyTaken = advice 2 (codes "drop-external removes it")
anywhere_advice db router why = limit_advice why

-- an edit that is refused in a database
unfoldable pub edit_advice : Lists → Edit → EditFault → AdviceValue
edit_advice db (edit.Cost area router link metric) why = router_advice db area router why
edit_advice db (edit.DropLink area router link) why = router_advice db area router why
edit_advice db (edit.FailLink area router neighbor) why = ends_advice db area router neighbor why
edit_advice db (edit.FailNet area network) why = network_advice db area network why
edit_advice db (edit.FailRouter router) why = anywhere_advice db router why
edit_advice db (edit.AddStub area router prefix metric) why = router_advice db area router why
edit_advice db (edit.Summary area router prefix metric) why = router_advice db area router why
edit_advice db (edit.AddSummary area router prefix metric) why = router_advice db area router why
edit_advice db (edit.AddExternal router prefix metric_type metric forward tag) why = anywhere_advice db router why
edit_advice db (edit.DropExternal router prefix) why = anywhere_advice db router why
edit_advice db edit.Refresh why = limit_advice why
edit_advice db (edit.Event event) why = event_advice db event why
