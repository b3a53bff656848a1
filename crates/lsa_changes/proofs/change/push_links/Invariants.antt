use Rattle.std.proofs.Common.{◌≡◌, ◌++◌, map, take}
use Rattle.lsa_changes.specs.declared.change.LsaChange.TheVariants.{Link}
use Rattle.lsa_changes.proofs.change.push_links.Given as goal

-- those so far
abbrev pub invariant-loop-link : goal.invariant-loop-link
invariant-loop-link g l = l.changes.items ≡ l.initial.changes.items ++ map Link (take l.link-index l.links)
