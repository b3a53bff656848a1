use Rattle.std.proofs.Common.{◌≡◌, ◌+◌, ◌++◌, drop}
use Rattle.lsa_changes.specs.Links.{numbered}
use Rattle.lsa_changes.proofs.Numbers.{numbered_from}
use Rattle.lsa_changes.proofs.link.numbered_links.Given as goal

-- the links so far, and those that are left
abbrev pub invariant-loop-i : goal.invariant-loop-i
invariant-loop-i g l = l.numbered.items ++ numbered_from (l.i + 1) (drop l.i l.links.items) ≡ numbered l.links.items
