-- Whether AS-external-LSAs are flooded to a router (RFC 2328, 3.6).
use Rattle.std.specs.Prelude.{Bool, not}
use Rattle.std.specs.List.{list_any}
use Rattle.lsa_codec.specs.declared.address.RouterId.{RouterId}
use Rattle.lsdb.specs.Lists.{Lists}
use Rattle.area_routes.specs.Attached.{attached_areas}

-- whether the router is attached to an area that is not a stub area
abbrev pub is_attached_outside_stubs : Lists → RouterId → Bool
is_attached_outside_stubs db router = list_any (λ area. not area.is_stub) (attached_areas db router)
