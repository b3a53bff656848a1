-- The ways of a route as studies show them.
use Rattle.std.specs.Prelude.{List, [], ◌∷◌, Option, None, Some}
use Rattle.lsa_codec.specs.declared.address.Addr.{Addr}
use Rattle.lsa_codec.specs.declared.address.RouterId.{RouterId}
use Rattle.lsdb.specs.Lists.{Lists}
use Rattle.next_hops.specs.declared.hop.Hop.{Hop}
use Rattle.next_hops.specs.declared.hop.Hop.TheVariants.{Connected, Link, Attached, Gateway}
use Rattle.hop_ends.specs.declared.way.Way.{Way}
use Rattle.hop_ends.specs.declared.way.Way.TheVariants.{Via, Direct, Exit}
use Rattle.route_lines.specs.declared.route_way.WayTarget.TheVariants as target
use Rattle.route_lines.specs.RouteLines.{RouteWayValue}
use Rattle.route_report.specs.declared.sought.Leg.{Leg}
use Rattle.route_report.specs.LinksOver.{far_addresses}

-- the interface that a hop leads over, if there is one
abbrev pub interface_of : Hop → Option Addr
interface_of Connected = None
interface_of (Link interface) = Some interface
interface_of (Attached interface) = Some interface
interface_of (Gateway interface address) = Some interface

-- the address that a hop leads to, if there is one
abbrev pub gateway_of : Hop → Option Addr
gateway_of Connected = None
gateway_of (Link interface) = None
gateway_of (Attached interface) = None
gateway_of (Gateway interface address) = Some address

abbrev pub leg : RouterId → Addr → RouterId → Leg
leg router interface neighbor = record { router = router; interface = interface; neighbor = neighbor }

-- the addresses of the neighbor's interface: at the other ends of the links, or on the network
abbrev pub addresses_over : Lists → RouterId → RouterId → Hop → List Addr
addresses_over db router neighbor Connected = []
addresses_over db router neighbor (Link interface) = far_addresses db (leg router interface neighbor)
addresses_over db router neighbor (Attached interface) = []
addresses_over db router neighbor (Gateway interface address) = address ∷ []

-- a way of a router
abbrev pub way_over : Lists → RouterId → Way → RouteWayValue
way_over db router (Via hop neighbor) = record {
  target = target.Via neighbor;
  out = interface_of hop;
  addresses = addresses_over db router neighbor hop;
}
way_over db router (Direct hop) = record { target = target.Direct; out = interface_of hop; addresses = [] }
way_over db router (Exit hop) = record { target = target.Exit (gateway_of hop); out = interface_of hop; addresses = [] }
