use Rattle.std.proofs.Common.{◌≡◌, ◌++◌, map, take}
use Rattle.lsa_changes.specs.Changes.{member_change}
use Rattle.lsa_changes.proofs.change.push_members.Given as goal

-- those so far
abbrev pub invariant-loop-router : goal.invariant-loop-router
invariant-loop-router g l = l.changes.items ≡ l.initial.changes.items ++ map (member_change l.is_new) (take l.router-index l.routers)
