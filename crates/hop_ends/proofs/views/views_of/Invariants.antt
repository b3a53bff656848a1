use Rattle.std.proofs.Common.{◌≡◌}
use Rattle.std.specs.List.{All}
use Rattle.lsdb.specs.Slots.{lists_of}
use Rattle.hop_ends.proofs.views.views_of.Given as goal

-- those so far are of this database
abbrev pub invariant-loop-router : goal.invariant-loop-router
invariant-loop-router g l = All (λ v. v.db ≡ lists_of l.database) l.views.items
