-- Routes and best ways, as contracts see them (RFC 2328, 11).
use Rattle.std.specs.Prelude.{ℕ, ◌<◌, List, All}
use Rattle.lsa_codec.specs.declared.address.AreaId.{AreaId}
use Rattle.lsa_codec.specs.Prefix.{Net}
use Rattle.next_hops.specs.declared.hop.Hop.{Hop}
use Rattle.best_ways.specs.declared.rank.PathType.{PathType}
use Rattle.best_ways.specs.declared.rank.Rank.{Rank}

-- a route to a network: the areas that its paths lead through, their cost and their next hops
pub record RouteValue : Type 0 where
  pub net : Net
  pub kind : PathType
  pub areas : List AreaId
  pub cost : ℕ
  pub cost2 : ℕ
  pub hops : List Hop

-- what the best of the paths to one destination have in common
pub record WayValue : Type 0 where
  pub rank : Rank
  pub areas : List AreaId
  pub hops : List Hop

-- all costs are below a bound
abbrev pub RoutesBelow : ℕ → List RouteValue → Type 0
RoutesBelow bound routes = All (λ r. r.cost < bound) routes
