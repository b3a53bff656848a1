use Rattle.std.proofs.Common.{◌≡◌, take}
use Rattle.lost_routes.specs.LostPairs.{pairs_by}
use Rattle.lost_routes.proofs.pairs.pairs_by.Given as goal

-- what the routers so far have lost
abbrev pub invariant-loop-routes : goal.invariant-loop-routes
invariant-loop-routes g l =
    let so_far = pairs_by l.baseline l.now l.were.routers (take l.routes-index l.routers) in
    (l.lost.items ≡ so_far.lost) × (l.gone.items ≡ so_far.gone)
