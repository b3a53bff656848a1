use Rattle.std.proofs.Common.{◌≡◌, take}
use Rattle.std.specs.List.{flat_map}
use Rattle.area_candidates.specs.Within.{drafts_within}
use Rattle.area_candidates.proofs.stubs.intra_drafts.Given as goal

-- the candidates of the areas so far
abbrev pub invariant-loop-view : goal.invariant-loop-view
invariant-loop-view g l = l.drafts.items ≡ flat_map (drafts_within l.net) (take l.view-index l.views)
