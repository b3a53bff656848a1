use Rattle.std.proofs.Common.{◌≡◌, ◌++◌, map, take}
use Rattle.comparison.specs.Named.{name_of}
use Rattle.comparison.proofs.changes.push_names.Given as goal

-- the names of the changes so far were added
abbrev pub invariant-loop-found : goal.invariant-loop-found
invariant-loop-found g l = l.names.items ≡ l.initial.names.items ++ map (name_of l.both l.router) (take l.found-index l.changes)
