use Rattle.std.proofs.Common.{◌≡◌, take}
use Rattle.area_routes.specs.steps.Growing.{with_offers}
use Rattle.area_routes.specs.steps.StubCandidates.{offers_over}
use Rattle.area_routes.proofs.stubs.add_stubs.Given as goal

abbrev pub invariant-loop-link : goal.invariant-loop-link
invariant-loop-link g l = l.ways ≡ with_offers l.initial.ways (offers_over l.root l.tree.distances l.hops (take l.link-index l.links))
