use Rattle.std.proofs.Common.{◌≡◌, ◌++◌, drop}
use Rattle.lsa_changes.specs.Links.{link_changes, numbered_links}
use Rattle.lsa_changes.proofs.link.link_changes.Given as goal

-- the changes so far, and those of the links that are left
abbrev pub invariant-loop-link : goal.invariant-loop-link
invariant-loop-link g l =
    l.changes.items ++ link_changes l.left.items (drop l.link-index l.link-items) ≡ link_changes (numbered_links l.before) (numbered_links l.now)
