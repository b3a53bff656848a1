use Rattle.std.proofs.Common.{◌≡◌, length, take}
use Rattle.external_routes.specs.steps.Lookup.{MarksLengths}
use Rattle.external_routes.proofs.forward.lengths.Given as goal

-- the lengths so far are marked
abbrev pub invariant-loop-route : goal.invariant-loop-route
invariant-loop-route g l = (length l.marks ≡ 33) × MarksLengths (take l.route-index l.routes) l.marks
