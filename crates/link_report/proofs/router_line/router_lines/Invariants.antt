use Rattle.std.proofs.Common.{◌≡◌, map, take}
use Rattle.lsdb.specs.Slots.{lists_of}
use Rattle.link_report.specs.Routers.{router_value}
use Rattle.link_report.proofs.router_line.router_lines.Given as goal

-- the routers so far
abbrev pub invariant-loop-router : goal.invariant-loop-router
invariant-loop-router g l = l.lines.items ≡ map (router_value (lists_of l.database)) (take l.router-index l.router-items)
