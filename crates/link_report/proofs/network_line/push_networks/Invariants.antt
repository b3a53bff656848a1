use Rattle.std.proofs.Common.{◌≡◌, ◌++◌, take}
use Rattle.std.specs.List.{flat_map}
use Rattle.link_report.specs.Networks.{network_in}
use Rattle.link_report.proofs.network_line.push_networks.Given as goal

-- the networks at the places so far
abbrev pub invariant-loop-place : goal.invariant-loop-place
invariant-loop-place g l = l.lines.items ≡ l.initial.lines.items ++ flat_map (network_in l.area) (take l.place-index l.place-items)
