-- The router-LSA of a router in an area (RFC 2328, 12.4.1): it has one for each area that it is attached to.
use Rattle.std.specs.Prelude.{ℕ, List, [], Option, Some, None, if◌then◌else◌}
use Rattle.std.specs.List.{find}
use Rattle.std.specs.Option.{option_map_or}
use Rattle.lsa_codec.specs.declared.address.AreaId.{AreaId}
use Rattle.lsa_codec.specs.declared.address.RouterId.{RouterId}
use Rattle.lsa_codec.specs.Key.{router_key}
use Rattle.lsdb.specs.declared.section.Section.TheVariants.{Area}
use Rattle.lsdb.specs.Lists.{Lists, has_key, lsas_of}
use Rattle.area_graph.specs.Area.{is_live}
use Rattle.interfaces.specs.declared.interface.Interface.{Interface}
use Rattle.interfaces.specs.Interfaces.{interfaces_of}

-- the LSA, where it is below MaxAge
abbrev pub live_or_none : Option (List ℕ) → Option (List ℕ)
live_or_none None = None
live_or_none (Some lsa) = if is_live lsa then Some lsa else None

-- the live router-LSA of a router in an area
abbrev pub router_lsa_of : Lists → AreaId → RouterId → Option (List ℕ)
router_lsa_of db area router = live_or_none (find (has_key (router_key router)) (lsas_of (Area area) db))

-- the interfaces of a router in an area, in the order of its links: none where it has no live router-LSA there
abbrev pub interfaces_in : Lists → AreaId → RouterId → List Interface
interfaces_in db area router = option_map_or interfaces_of (router_lsa_of db area router) []
