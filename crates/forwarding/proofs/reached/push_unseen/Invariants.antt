use Rattle.std.proofs.Common.{◌≡◌, ◌++◌, take}
use Rattle.std.specs.List.{filter_map}
use Rattle.forwarding.specs.steps.Levels.{unseen_over}
use Rattle.forwarding.proofs.reached.push_unseen.Given as goal

-- those over the ways so far were added
abbrev pub invariant-loop-way : goal.invariant-loop-way
invariant-loop-way g l = l.routers.items ≡ l.initial.routers.items ++ filter_map (unseen_over l.seen.keys) (take l.way-index l.ways)
