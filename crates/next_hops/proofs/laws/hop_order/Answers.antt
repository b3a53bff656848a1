use Rattle.std.proofs.Common.{◌≡◌, refl}
use Rattle.std.specs.Ordering.{nat_cmp, ordering_then}
use Rattle.std.specs.declared.cmp.Ordering.{Ordering}
use Rattle.std.specs.declared.cmp.Ordering.TheVariants.{Less, Equal, Greater}
use Rattle.next_hops.specs.declared.hop.Hop.TheVariants.{Connected, Link, Attached, Gateway}
use Rattle.next_hops.proofs.HopOrder.{hop_cmp_total, same_hop}
use Rattle.next_hops.proofs.laws.hop_order.Goals as goal

then_equal : (o : Ordering) → o ≡ ordering_then o Equal
then_equal Less = refl
then_equal Equal = refl
then_equal Greater = refl

pub returns-clause-order : goal.returns-clause-order
returns-clause-order c Connected Connected = refl
returns-clause-order c Connected (Link e) = refl
returns-clause-order c Connected (Attached e) = refl
returns-clause-order c Connected (Gateway e b) = refl
returns-clause-order c (Link d) Connected = refl
returns-clause-order c (Link d) (Link e) = then_equal (nat_cmp d.0 e.0)
returns-clause-order c (Link d) (Attached e) = refl
returns-clause-order c (Link d) (Gateway e b) = refl
returns-clause-order c (Attached d) Connected = refl
returns-clause-order c (Attached d) (Link e) = refl
returns-clause-order c (Attached d) (Attached e) = then_equal (nat_cmp d.0 e.0)
returns-clause-order c (Attached d) (Gateway e b) = refl
returns-clause-order c (Gateway d a) Connected = refl
returns-clause-order c (Gateway d a) (Link e) = refl
returns-clause-order c (Gateway d a) (Attached e) = refl
returns-clause-order c (Gateway d a) (Gateway e b) = refl

pub returns-clause-total : goal.returns-clause-total
returns-clause-total c = hop_cmp_total

pub returns-clause-exact : goal.returns-clause-exact
returns-clause-exact c = same_hop
