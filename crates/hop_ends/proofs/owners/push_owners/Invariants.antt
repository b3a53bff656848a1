use Rattle.std.proofs.Common.{◌≡◌, ◌++◌, take}
use Rattle.std.specs.List.{flat_map}
use Rattle.hop_ends.specs.steps.Rows.{owners_over}
use Rattle.hop_ends.proofs.owners.push_owners.Given as goal

-- those of the edges so far were added
abbrev pub invariant-loop-edge : goal.invariant-loop-edge
invariant-loop-edge g l =
    l.found.items ≡ l.initial.found.items ++ flat_map (owners_over l.graph l.router l.interface l.address) (take l.edge-index l.edge-items)
