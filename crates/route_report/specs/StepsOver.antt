-- What a router does with a packet, by one of its ways.
use Rattle.std.specs.Prelude.{ℕ, None, Some}
use Rattle.lsa_codec.specs.Prefix.{Net}
use Rattle.lsa_codec.specs.declared.address.RouterId.{RouterId}
use Rattle.lsdb.specs.Lists.{Lists}
use Rattle.next_hops.specs.declared.hop.Hop.{Hop}
use Rattle.next_hops.specs.declared.hop.Hop.TheVariants.{Connected, Link, Attached, Gateway}
use Rattle.hop_ends.specs.declared.way.Way.{Way}
use Rattle.hop_ends.specs.declared.way.Way.TheVariants.{Via, Direct, Exit}
use Rattle.route_lines.specs.declared.path_step.PathStep.{PathStep}
use Rattle.route_lines.specs.declared.path_step.StepTarget.{StepTarget}
use Rattle.route_lines.specs.declared.path_step.StepTarget.TheVariants.{To, Delivered, External}
use Rattle.route_lines.specs.declared.route_source.RouteSource.{RouteSource}
use Rattle.route_report.specs.declared.sought.Side.TheVariants.{Near}
use Rattle.route_report.specs.declared.sought.Sought.TheVariants.{Ends, Nets}
use Rattle.route_report.specs.LinksOver.{least_cost, sought}
use Rattle.route_report.specs.Ways.{gateway_of, interface_of, leg}

-- the least cost of the links that lead over a hop to a neighbor, or to the network
abbrev pub cost_over : Lists → RouterId → RouterId → Hop → ℕ
cost_over db router neighbor Connected = 0
cost_over db router neighbor (Link interface) = least_cost (sought db (Ends (leg router interface neighbor) Near))
cost_over db router neighbor (Attached interface) = 0
cost_over db router neighbor (Gateway interface address) = least_cost (sought db (Nets router interface))

abbrev pub hop_of : Way → Hop
hop_of (Via hop neighbor) = hop
hop_of (Direct hop) = hop
hop_of (Exit hop) = hop

-- where a way of a router leads
abbrev pub step_target : Lists → RouterId → Way → StepTarget
step_target db router (Via hop neighbor) = To neighbor (cost_over db router neighbor hop)
step_target db router (Direct hop) = Delivered
step_target db router (Exit hop) = External (gateway_of hop)

-- a step by a way of the entry for a prefix
abbrev pub step_over : Lists → RouterId → Net → RouteSource → Way → PathStep
step_over db router net source way = record {
  router = router;
  way = Some (record { net = net; source = source; out = interface_of (hop_of way); target = step_target db router way });
}

-- out of the network, by an external prefix of the router itself
abbrev pub step_out : RouterId → Net → RouteSource → PathStep
step_out router net source = record {
  router = router;
  way = Some (record { net = net; source = source; out = None; target = External None });
}

-- a router without a match drops the packet
abbrev pub step_down : RouterId → PathStep
step_down router = record { router = router; way = None }
