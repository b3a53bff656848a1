-- A router has an entry where packets match it.
use Rattle.std.proofs.Common.{◌≡◌, Bool, true, false, Option, None, Some, refl}
use Rattle.std.specs.Prelude.{◌||◌, if◌then◌else◌, is_some, not}
use Rattle.lsa_codec.specs.Prefix.{Net}
use Rattle.lsa_codec.specs.declared.address.RouterId.{RouterId}
use Rattle.lsdb.specs.Lists.{Lists}
use Rattle.best_ways.specs.Values.{RouteValue}
use Rattle.forwarding.specs.Matches.{entry_by, is_own_network, own_entry, route_entry}

module _ (db : Lists) (router : RouterId) (net : Net) where
  own_or_route : (is_own_net : Bool) (route : RouteValue) → true ≡ is_some (if not is_own_net then Some (own_entry net) else Some (route_entry db router route))
  own_or_route true route = refl
  own_or_route false route = refl

  pub is_entry : (is_own : Bool) (route : Option RouteValue) → (is_some route || is_own) ≡ is_some (entry_by db router net is_own route)
  is_entry true None = refl
  is_entry false None = refl
  is_entry false (Some route) = refl
  is_entry true (Some route) = own_or_route (is_own_network route) route
