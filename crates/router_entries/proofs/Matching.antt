-- The entries are those of forwarding graphs.
use Rattle.std.proofs.Common.{◌≡◌, Bool, true, false, cond, Option, Some, None, refl, ap}
use Rattle.std.specs.Prelude.{not}
use Rattle.std.specs.Option.{option_map}
use Rattle.lsa_codec.specs.Prefix.{Net}
use Rattle.lsa_codec.specs.declared.address.RouterId.{RouterId}
use Rattle.lsdb.specs.Lists.{Lists}
use Rattle.best_ways.specs.Routes.{route_to}
use Rattle.best_ways.specs.Values.{RouteValue}
use Rattle.best_ways.specs.declared.rank.PathType.{PathType}
use Rattle.best_ways.specs.declared.rank.PathType.TheVariants.{Intra, Inter, Ext1, Ext2}
use Rattle.forwarding.specs.Matches.{MatchValue, RouterValue, has_net, is_own_network}
use Rattle.forwarding.specs.Matches.{entry_by as matching_by, entry_for as matching_for, own_entry as matching_own, route_entry as matching_route}
use Rattle.router_entries.specs.Entries.{entry_by, entry_for, is_own, is_own_external, kind_of, own_external, route_entry}

not_own : (path : PathType) → false ≡ is_own (kind_of path)
not_own Intra = refl
not_own Inter = refl
not_own Ext1 = refl
not_own Ext2 = refl

module _ (db : Lists) (router : RouterId) (net : Net) where
  by_route : (o : Bool) (route : Option RouteValue)
      → option_map (λ (m : MatchValue). m.is_own) (matching_by db router net o route) ≡ option_map is_own_external (entry_by o route)
  by_route false None = refl
  by_route false (Some r) = ap Some (not_own r.kind)
  by_route true None = refl
  by_route true (Some r) = by_network (is_own_network r)
    where
      by_network : (b : Bool)
          → option_map (λ (m : MatchValue). m.is_own) (cond (not b) (Some (matching_own net)) (Some (matching_route db router r)))
          ≡ option_map is_own_external (cond (not b) (Some own_external) (Some (route_entry r)))
      by_network true = ap Some (not_own r.kind)
      by_network false = refl

pub matches : (db : Lists) (r : RouterValue) (net : Net)
    → option_map (λ (m : MatchValue). m.is_own) (matching_for db r net) ≡ option_map is_own_external (entry_for r net)
matches db r net = by_route db r.router net (has_net r.own net) (route_to r.routes net)
