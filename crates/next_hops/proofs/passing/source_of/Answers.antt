use Rattle.std.proofs.Common.{List, sym, subst}
use Rattle.next_hops.specs.declared.hop.Hop.{Hop}
use Rattle.next_hops.specs.Hop.{IsSortedHops}
use Rattle.next_hops.proofs.Keeping.{IsSortedHops-list_in}
use Rattle.next_hops.proofs.passing.source_of.Goals as goal

pub of-passage-requires : goal.of-passage-requires
of-passage-requires g c =
    subst (λ (hops : List Hop). IsSortedHops hops) (sym c.list.ensures)
    (IsSortedHops-list_in c.settle.new.self.lists.keys c.in_ok-number.ensures.stays.whole.sorted c.in_ok-number.number c.in_ok-number.ensures.within)
