use Rattle.std.proofs.Common.{◌≡◌, [], take}
use Rattle.std.specs.Prelude.{fold}
use Rattle.audit_topology.specs.Parts.{with_part}
use Rattle.audit_topology.proofs.parts.parts_of.Given as goal

-- the parts of the routers so far
abbrev pub invariant-loop-router : goal.invariant-loop-router
invariant-loop-router g l = l.parts.items ≡ fold (with_part l.area) [] (take l.router-index l.router-items)
