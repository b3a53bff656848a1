use Rattle.std.proofs.Common.{◌≡◌, ◌++◌, map, take}
use Rattle.area_candidates.specs.Between.{summary_draft}
use Rattle.area_candidates.proofs.summaries.push_between.Given as goal

-- the summary-LSAs so far
abbrev pub invariant-loop-found : goal.invariant-loop-found
invariant-loop-found g l =
    l.drafts.items ≡ l.initial.drafts.items ++ map (summary_draft l.is_within l.is_examined l.view) (take l.found-index l.found-items)
