use Rattle.std.proofs.Common.{◌≡◌, ◌++◌, take}
use Rattle.std.specs.List.{enumerate_from, filter_map}
use Rattle.area_candidates.specs.Within.{stub_draft}
use Rattle.area_candidates.proofs.stubs.push_stub_drafts.Given as goal

-- those of the links so far
abbrev pub invariant-loop-place : goal.invariant-loop-place
invariant-loop-place g l =
    l.drafts.items ≡ l.initial.drafts.items ++ filter_map (stub_draft l.view l.net l.found) (take l.place (enumerate_from 1 l.links.items))
