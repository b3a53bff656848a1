use Rattle.std.proofs.Common.{None, length}
use Rattle.microloops.specs.Changeover.{next_in_either}
use Rattle.microloops.specs.steps.Searching.{IsSearch}
use Rattle.microloops.proofs.changeover.microloops.Given as goal

abbrev pub invariant-routers : goal.invariant-routers
invariant-routers g l = IsSearch (next_in_either l.before l.after) None l.search

-- the routers that were not seen
abbrev pub decreases-routers : goal.decreases-routers
decreases-routers g l = length l.search.unseen.keys
