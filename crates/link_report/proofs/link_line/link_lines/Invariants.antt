use Rattle.std.proofs.Common.{◌≡◌, take}
use Rattle.lsdb.specs.Slots.{lists_of}
use Rattle.link_report.specs.Links.{links_of_routers}
use Rattle.link_report.proofs.link_line.link_lines.Given as goal

-- the links of the routers so far
abbrev pub invariant-loop-router : goal.invariant-loop-router
invariant-loop-router g l = l.lines.items ≡ links_of_routers (lists_of l.database) (take l.router-index l.routers)
