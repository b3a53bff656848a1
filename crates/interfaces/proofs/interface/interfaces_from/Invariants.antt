use Rattle.std.proofs.Common.{◌≡◌, ◌++◌, drop}
use Rattle.interfaces.specs.Interfaces.{interfaces_from}
use Rattle.interfaces.proofs.interface.interfaces_from.Given as goal

-- the interfaces so far, and those of the links that are left
abbrev pub invariant-loop-i : goal.invariant-loop-i
invariant-loop-i g l = l.found.items ++ interfaces_from (drop l.i l.links) ≡ interfaces_from l.links
