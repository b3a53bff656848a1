-- The paths that AS-external-LSAs in use offer, by their fields.
use Rattle.std.specs.Prelude.{ℕ, ◌+◌, ◌==◌, List, Option, None, Some, if◌then◌else◌, map, not}
use Rattle.std.specs.Option.{option_and_then, option_map}
use Rattle.lsa_codec.specs.declared.address.RouterId.{RouterId}
use Rattle.lsa_codec.specs.Prefix.{Net}
use Rattle.next_hops.specs.declared.hop.Hop.{Hop}
use Rattle.next_hops.specs.Hop.{extended}
use Rattle.best_ways.specs.declared.rank.PathType.TheVariants.{Ext1, Ext2}
use Rattle.best_ways.specs.declared.rank.Rank.{Rank}
use Rattle.area_routes.specs.Values.{EntryValue}
use Rattle.best_ways.specs.Values.{RouteValue}
use Rattle.best_ways.specs.Candidate.{Candidate}
use Rattle.area_routes.specs.Inter.{same_router}
use Rattle.best_ways.specs.Routes.{has_route}
use Rattle.external_routes.specs.declared.external_lsas.ExternalLsa.{ExternalLsa}
use Rattle.external_routes.specs.Choose.{entry_class, forward_match, preferred, route_class}

-- what the path of an LSA is compared by, over a way of this class and cost
abbrev pub rank_over : ExternalLsa → ℕ → ℕ → Rank
rank_over x class cost =
    if x.is_type2 then record { path = Ext2; cost2 = x.metric; class = class; cost = cost } else record { path = Ext1; cost2 = 0; class = class; cost = cost + x.metric }

-- the path over a way of this class, cost and hops
abbrev pub path : ExternalLsa → ℕ → ℕ → List Hop → Candidate Net
path x class cost hops = record { key = x.net; rank = rank_over x class cost; area = None; hops = hops }

-- over an entry of the originator
abbrev pub by_entry : ExternalLsa → EntryValue → Candidate Net
by_entry x e = path x (entry_class e) e.cost e.hops

-- over a route to the forwarding address
abbrev pub by_route : ExternalLsa → RouteValue → Candidate Net
by_route x r = path x (route_class r) r.cost (map (λ hop. extended hop x.forward) r.hops)

-- over the originator's preferred entry, or over the route of the longest prefix that covers the forwarding address
abbrev pub over : List RouteValue → ExternalLsa → EntryValue → Option (Candidate Net)
over routes x e = if x.forward.0 == 0 then Some (by_entry x e) else option_map (by_route x) (forward_match routes x.forward)

-- the path of an LSA of another router, where the prefix has no other route and the originator has an entry
abbrev pub candidate_of : RouterId → List RouteValue → List EntryValue → ExternalLsa → Option (Candidate Net)
candidate_of router routes entries x =
    if same_router x.router router then None
    else (if has_route routes x.net then None else option_and_then (over routes x) (preferred entries x.router))
