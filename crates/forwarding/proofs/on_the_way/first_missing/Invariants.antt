use Rattle.std.proofs.Common.{◌≡◌, None, take}
use Rattle.std.specs.List.{find}
use Rattle.forwarding.specs.steps.OnTheWay.{is_missing}
use Rattle.forwarding.proofs.on_the_way.first_missing.Given as goal

-- none of those so far is missing
abbrev pub invariant-loop-router : goal.invariant-loop-router
invariant-loop-router g l = find (is_missing l.attached l.graph) (take l.router-index l.router-items) ≡ None
