-- AS-external-LSAs that no router uses, since no attached router has an intra-area or inter-area route to the forwarding address
-- (RFC 2328, 16.4 (3)).
use Rattle.std.specs.Prelude.{ℕ, Bool, false, ◌&&◌, ◌==◌, not, is_some, if◌then◌else◌, List, Option, None, Some}
use Rattle.std.specs.List.{list_any}
use Rattle.std.specs.Option.{option_map_or}
use Rattle.lsa_codec.specs.Prefix.{Net}
use Rattle.lsa_codec.specs.Views.{forward_of}
use Rattle.lsa_codec.specs.declared.address.Addr.{Addr}
use Rattle.lsdb.specs.declared.section.Section.TheVariants.{AsWide}
use Rattle.lsdb.specs.Lists.{Lists, lsas_of}
use Rattle.external_routes.specs.Choose.{covers}
use Rattle.external_routes.specs.External.{forward_address}
use Rattle.external_routes.specs.ExternalLsas.{is_in_use}
use Rattle.lsa_names.specs.LsaNames.{lsa_name}
use Rattle.audit_places.specs.Places.{PlaceValue, at_lsa}
use Rattle.audit_routes.specs.Inside.{reached_nets}
use Rattle.audit_routes.specs.InOrder.{found_in_order}

-- one of some prefixes covers an address
abbrev pub any_covers : List Net → Addr → Bool
any_covers nets addr = list_any (λ net. covers net addr) nets

-- the forwarding address of an AS-external-LSA in use, if it has one
abbrev pub forwarded_to : List ℕ → Option Addr
forwarded_to lsa = if is_in_use lsa && not (forward_of lsa == 0) then Some (forward_address lsa) else None

abbrev pub is_forwarded : List ℕ → Bool
is_forwarded lsa = is_some (forwarded_to lsa)

-- an AS-external-LSA in use, with a forwarding address that none of these prefixes covers
abbrev pub is_unreached : List Net → List ℕ → Bool
is_unreached nets lsa = option_map_or (λ addr. not (any_covers nets addr)) (forwarded_to lsa) false

abbrev pub unreached_place : List Net → List ℕ → Option PlaceValue
unreached_place nets lsa = if is_unreached nets lsa then Some (at_lsa (lsa_name None lsa)) else None

-- such LSAs, in order, where the prefixes are those that some attached router has a route inside the AS to
abbrev pub forward_unreached_places : Lists → List PlaceValue
forward_unreached_places db = found_in_order (unreached_place (reached_nets db)) (lsas_of AsWide db)
