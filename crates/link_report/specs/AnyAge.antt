-- Router-LSAs of an area, live ones or those of any age (RFC 2328, 12.4.1).
use Rattle.std.specs.Prelude.{ℕ, List, [], Option}
use Rattle.std.specs.List.{find}
use Rattle.std.specs.Option.{option_map_or}
use Rattle.lsa_codec.specs.declared.address.AreaId.{AreaId}
use Rattle.lsa_codec.specs.declared.address.RouterId.{RouterId}
use Rattle.lsa_codec.specs.Key.{router_key}
use Rattle.lsdb.specs.declared.section.Section.TheVariants.{Area}
use Rattle.lsdb.specs.Lists.{Lists, has_key, lsas_of}
use Rattle.interfaces.specs.declared.interface.Interface.{Interface}
use Rattle.interfaces.specs.Interfaces.{interfaces_of}
use Rattle.interfaces.specs.Routers.{router_lsa_of}
use Rattle.link_report.specs.declared.ages.Ages.{Ages}
use Rattle.link_report.specs.declared.ages.Ages.TheVariants.{Live, Any}

-- the router-LSA of a router in an area, whatever its age
abbrev pub router_lsa_of_any_age : Lists → AreaId → RouterId → Option (List ℕ)
router_lsa_of_any_age db area router = find (has_key (router_key router)) (lsas_of (Area area) db)

-- the router-LSA of a router in an area, of those that count
abbrev pub router_lsa_by : Ages → Lists → AreaId → RouterId → Option (List ℕ)
router_lsa_by Live = router_lsa_of
router_lsa_by Any = router_lsa_of_any_age

-- the interfaces of a router in an area, in the order of its links
abbrev pub interfaces_by : Ages → Lists → AreaId → RouterId → List Interface
interfaces_by ages db area router = option_map_or interfaces_of (router_lsa_by ages db area router) []
