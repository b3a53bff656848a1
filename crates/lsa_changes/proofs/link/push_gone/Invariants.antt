use Rattle.std.proofs.Common.{◌≡◌, ◌++◌, map, take}
use Rattle.lsa_changes.specs.declared.link.LinkChange.TheVariants.{Gone}
use Rattle.lsa_changes.proofs.link.push_gone.Given as goal

-- those so far
abbrev pub invariant-loop-link : goal.invariant-loop-link
invariant-loop-link g l = l.changes.items ≡ l.initial.changes.items ++ map Gone (take l.link-index l.links)
