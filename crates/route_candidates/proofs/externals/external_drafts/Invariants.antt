use Rattle.std.proofs.Common.{◌≡◌, map, take}
use Rattle.route_candidates.specs.Outside.{external_draft}
use Rattle.route_candidates.proofs.externals.external_drafts.Given as goal

-- the AS-external-LSAs so far
abbrev pub invariant-loop-found : goal.invariant-loop-found
invariant-loop-found g l = l.drafts.items ≡ map (external_draft l.is_inside l.view) (take l.found-index l.found-items)
