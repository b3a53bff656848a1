-- What all routers have lost, where one database is the baseline of another.
use Rattle.std.specs.Prelude.{List, [], map, Option, None, Some}
use Rattle.std.specs.List.{flat_map}
use Rattle.lsa_codec.specs.Prefix.{Net}
use Rattle.lsa_codec.specs.declared.address.RouterId.{RouterId}
use Rattle.lsdb.specs.Lists.{Lists}
use Rattle.forwarding.specs.Graphs.{routers_of, routes_at}
use Rattle.forwarding.specs.Matches.{RouterValue}
use Rattle.lost_routes.specs.declared.pairs.RouterPrefix.{RouterPrefix}
use Rattle.lost_routes.specs.Announced.{AnnouncedValue, announced_in}
use Rattle.lost_routes.specs.Lost.{LostValue, lost_routes}

-- a router with each of these prefixes
abbrev pub pairs_of : RouterId → List Net → List RouterPrefix
pairs_of router nets = map (λ net. record { router = router; net = net }) nets

abbrev pub nothing_lost : LostValue
nothing_lost = record { lost = []; gone = [] }

-- what a router has lost, and nothing where it was attached to no area in the baseline
abbrev pub lost_since : AnnouncedValue → AnnouncedValue → Option RouterValue → RouterValue → LostValue
lost_since baseline now (Some was) is = lost_routes baseline now was is
lost_since baseline now None is = nothing_lost

-- routers and prefixes that are lost, and those that are gone
pub record LostPairsValue : Type 0 where
  pub lost : List RouterPrefix
  pub gone : List RouterPrefix

module _ (baseline now : AnnouncedValue) (were : List RouterValue) where
  -- what a router has lost, of the routers that were attached in the baseline
  abbrev pub lost_by : RouterValue → LostValue
  lost_by is = lost_since baseline now (routes_at were is.router) is

  -- what these routers have lost, by router, then by prefix
  abbrev pub pairs_by : List RouterValue → LostPairsValue
  pairs_by routers = record {
    lost = flat_map (λ is. pairs_of is.router (lost_by is).lost) routers;
    gone = flat_map (λ is. pairs_of is.router (lost_by is).gone) routers;
  }

-- what all routers have lost
abbrev pub lost_pairs : Lists → Lists → LostPairsValue
lost_pairs baseline now = pairs_by (announced_in baseline) (announced_in now) (routers_of baseline) (routers_of now)
