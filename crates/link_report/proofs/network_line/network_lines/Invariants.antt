use Rattle.std.proofs.Common.{◌≡◌, take}
use Rattle.std.specs.List.{flat_map}
use Rattle.link_report.specs.Networks.{networks_in}
use Rattle.link_report.proofs.network_line.network_lines.Given as goal

-- the networks of the areas so far
abbrev pub invariant-loop-area : goal.invariant-loop-area
invariant-loop-area g l = l.lines.items ≡ flat_map networks_in (take l.area-index l.area-items)
