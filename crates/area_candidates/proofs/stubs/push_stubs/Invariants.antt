use Rattle.std.proofs.Common.{◌≡◌, ◌++◌, take}
use Rattle.std.specs.List.{flat_map}
use Rattle.area_candidates.specs.Within.{stub_drafts_of}
use Rattle.area_candidates.proofs.stubs.push_stubs.Given as goal

-- the stub links of the routers so far
abbrev pub invariant-loop-found : goal.invariant-loop-found
invariant-loop-found g l = l.drafts.items ≡ l.initial.drafts.items ++ flat_map (stub_drafts_of l.view l.net) (take l.found-index l.found-items)
