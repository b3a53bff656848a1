use Rattle.std.proofs.Common.{◌≡◌, ◌++◌, take}
use Rattle.std.specs.List.{filter_map}
use Rattle.hop_ends.specs.steps.Rows.{owner_over}
use Rattle.hop_ends.proofs.owners.push_owners_over.Given as goal

-- those of the edges so far were added
abbrev pub invariant-loop-other : goal.invariant-loop-other
invariant-loop-other g l =
    l.found.items ≡ l.initial.found.items ++ filter_map (owner_over l.graph l.router l.address) (take l.other-index l.other-items)
