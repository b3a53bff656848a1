use Rattle.std.proofs.Common.{ℕ, List, sym, subst}
use Rattle.next_hops.specs.steps.Handed.{Adds}
use Rattle.next_hops.proofs.Adding.{Adds-insert}
use Rattle.next_hops.proofs.handed.insert.Goals as goal

pub returns-in_ok-insert : goal.returns-in_ok-insert
returns-in_ok-insert g c =
    subst (λ (new : List ℕ). Adds c.args.number c.args.numbers.now.items new) (sym c.in_ok-insert.ensures.items)
    (Adds-insert c.args.numbers.now.items c.in-Err.place c.args.number)
