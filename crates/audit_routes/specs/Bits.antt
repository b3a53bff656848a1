-- Bits of the router-LSAs of routers (RFC 2328, A.4.2).
use Rattle.std.specs.Prelude.{ℕ, Bool, false}
use Rattle.std.specs.Option.{option_map_or}
use Rattle.lsa_codec.specs.declared.address.AreaId.{AreaId}
use Rattle.lsa_codec.specs.declared.address.RouterId.{RouterId}
use Rattle.lsdb.specs.Lists.{Lists}
use Rattle.area_routes.specs.Entries.{flags_of, has_bit}
use Rattle.interfaces.specs.Routers.{router_lsa_of}

-- the live router-LSA of a router in an area has a bit
abbrev pub has_bit_in : Lists → AreaId → RouterId → ℕ → Bool
has_bit_in db area router bit = option_map_or (λ lsa. has_bit bit (flags_of lsa)) (router_lsa_of db area router) false
