-- The result of one area, by the routes of a router that is attached to this area alone.
use Rattle.std.specs.Prelude.{◌≡◌, ◌<◌, ◌^◌, List, map}
use Rattle.std.specs.List.{All}
use Rattle.lsa_codec.specs.declared.address.AreaId.{AreaId}
use Rattle.lsa_codec.specs.Prefix.{Net}
use Rattle.next_hops.specs.Hop.{IsSortedHops}
use Rattle.best_ways.specs.declared.rank.Rank.{Rank}
use Rattle.best_ways.specs.declared.rank.PathType.TheVariants.{Intra}
use Rattle.area_routes.specs.Intra.{intra_route}
use Rattle.area_routes.specs.Offers.{AreSortedOffers}
use Rattle.area_routes.specs.Values.{AreaResultValue, EntryValue, OfferValue, ResultBelow}
use Rattle.best_ways.specs.Candidate.{Candidate}
use Rattle.best_ways.specs.Values.{RouteValue}

-- the offer of a route
abbrev pub offered : RouteValue → OfferValue
offered r = record { net = r.net; cost = r.cost; hops = r.hops }

-- what a way to a prefix within an area is compared by
pub record IsIntraRank (rank : Rank) : Type 0 where
  pub path : rank.path ≡ Intra
  pub cost2 : rank.cost2 ≡ 0
  pub below : rank.cost < 2 ^ 33

abbrev pub IsWithinArea : Candidate Net → Type 0
IsWithinArea c = IsIntraRank c.rank

-- a route of a router that is attached to the area alone
pub record IsIntraRoute (area : AreaId) (r : RouteValue) : Type 0 where
  pub route : r ≡ intra_route area (offered r)
  pub hops : IsSortedHops r.hops

-- the result of an area, by these routes
abbrev pub result_by : AreaId → List RouteValue → List EntryValue → AreaResultValue
result_by area routes entries = record { area = area; offers = map offered routes; entries = entries }

pub record IsResultBy (area : AreaId) (routes : List RouteValue) (entries : List EntryValue) : Type 0 where
  pub below : ResultBelow (2 ^ 33) (result_by area routes entries)
  pub sorted : AreSortedOffers (map offered routes)
  pub intra : All (IsIntraRoute area) routes
