-- Intra-area routes (RFC 2328, 16.1).
use Rattle.std.specs.Prelude.{List, [], ◌∷◌, Some, map}
use Rattle.std.specs.List.{flat_map}
use Rattle.lsa_codec.specs.declared.address.AreaId.{AreaId}
use Rattle.lsa_codec.specs.Prefix.{Net}
use Rattle.best_ways.specs.declared.rank.PathType.TheVariants.{Intra}
use Rattle.area_routes.specs.Values.{AreaResultValue, OfferValue}
use Rattle.best_ways.specs.Values.{RouteValue}
use Rattle.best_ways.specs.Candidate.{Candidate}
use Rattle.best_ways.specs.Routes.{routes_of}

-- the way to a prefix that an area offers
abbrev pub intra_candidate : AreaId → OfferValue → Candidate Net
intra_candidate area o = record { key = o.net; rank = record { path = Intra; cost2 = 0; class = 0; cost = o.cost }; area = Some area; hops = o.hops }

-- all ways to prefixes that an area offers
abbrev pub intra_candidates : AreaResultValue → List (Candidate Net)
intra_candidates r = map (intra_candidate r.area) r.offers

-- to each prefix, the least cost of the ways that all areas offer, with the areas and next hops of the ways of this
-- cost
unfoldable pub intra_of : List AreaResultValue → List RouteValue
intra_of results = routes_of (flat_map intra_candidates results)

-- the route by an offer of the area, for a router that is attached to this area alone
abbrev pub intra_route : AreaId → OfferValue → RouteValue
intra_route area o = record { net = o.net; kind = Intra; areas = area ∷ []; cost = o.cost; cost2 = 0; hops = o.hops }

-- the result of an area, without the ways to prefixes
abbrev pub without_offers : AreaResultValue → AreaResultValue
without_offers r = record { area = r.area; offers = []; entries = r.entries }
