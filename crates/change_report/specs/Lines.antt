-- What differs from a baseline, with the routes of now and of before.
use Rattle.std.specs.Prelude.{List, [], map, Option, None, Some}
use Rattle.lsa_codec.specs.Prefix.{Net}
use Rattle.lsa_codec.specs.declared.address.RouterId.{RouterId}
use Rattle.lsdb.specs.Lists.{Lists}
use Rattle.forwarding.specs.Graphs.{routers_of, routes_at}
use Rattle.forwarding.specs.Matches.{RouterValue}
use Rattle.lost_routes.specs.Announced.{announced_in}
use Rattle.lost_routes.specs.Announcers.{announcements, announcers}
use Rattle.route_lines.specs.RouteLines.{RouteLineValue}
use Rattle.route_report.specs.Lines.{line_for}
use Rattle.change_lines.specs.ChangeTexts.{ChangeLineValue}
use Rattle.change_lines.specs.PairTexts.{PairLineValue}
use Rattle.change_lines.specs.declared.change_name.ChangeName.{ChangeName}
use Rattle.change_lines.specs.declared.pair.Pair.{Pair}
use Rattle.comparison.specs.Compared.{Compared}
use Rattle.comparison.specs.Named.{gone, lost}

-- what a router uses for a prefix, where it is attached and has an entry
abbrev pub route_by : Lists → Net → Option RouterValue → Option RouteLineValue
route_by db net None = None
route_by db net (Some r) = line_for db r net

abbrev pub route_at : Lists → RouterId → Net → Option RouteLineValue
route_at db router net = route_by db net (routes_at (routers_of db) router)

-- the same, where there may be no prefix
abbrev pub route_for : Lists → RouterId → Option Net → Option RouteLineValue
route_for db router None = None
route_for db router (Some net) = route_at db router net

module _ (c : Compared) where
  -- a change, with the route of now and the one before
  abbrev pub change_line : ChangeName → ChangeLineValue
  change_line name = record {
    name = name;
    now = route_for c.present name.router name.net;
    was = route_for c.baseline name.router name.net;
  }

  abbrev pub lines_of_changes : List ChangeName → List ChangeLineValue
  lines_of_changes names = map change_line names

  -- a pair with the route of the baseline
  abbrev pub gone_line : Pair → PairLineValue
  gone_line pair = record { pair = pair; was = route_at c.baseline pair.router pair.net; announced = [] }

  -- the same with the routers that announce the prefix
  abbrev pub lost_line : Pair → PairLineValue
  lost_line pair = record (gone_line pair) { announced = announcers (announcements (announced_in c.baseline) c.present) pair.net }

  -- the answers of `lost` and of `gone`
  abbrev pub lost_lines : List PairLineValue
  lost_lines = map lost_line (lost c)

  abbrev pub gone_lines : List PairLineValue
  gone_lines = map gone_line (gone c)
