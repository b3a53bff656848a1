-- The orders of hops, ranks and candidates are total, and those of hops and ranks distinguish all values.
use Rattle.std.proofs.Common.{◌≡◌, ◌+◌, false, List, get_or, refl}
use Rattle.std.specs.Cmp.{IsTotalOrder}
use Rattle.std.specs.List.Sorted.{IsSorted}
use Rattle.std.specs.Ordering.{is_lt, nat_cmp, ordering_then}
use Rattle.std.specs.declared.cmp.Ordering.{Ordering}
use Rattle.std.specs.declared.cmp.Ordering.TheVariants.{Less, Equal, Greater}
use Rattle.std.proofs.lemmas.Cmp.{nat_cmp_total, on_total, then_total}
use Rattle.std.proofs.lemmas.Map.Lookups.{CmpEqualImpliesEq, exact_unsigned}
use Rattle.lsa_codec.proofs.OrderLemmas.{then_both}
use Rattle.next_hops.specs.Hop.{hop_cmp}
use Rattle.next_hops.proofs.HopLemmas.{hop_cmp_total, same_hop}
use Rattle.best_ways.specs.Candidate.{Candidate}
use Rattle.best_ways.specs.Order.{path_cmp, path_number, rank_cmp}
use Rattle.best_ways.specs.declared.rank.PathType.{PathType}
use Rattle.best_ways.specs.declared.rank.PathType.TheVariants.{Intra, Inter, Ext1, Ext2}
use Rattle.best_ways.specs.steps.Merge.{candidate_cmp, contender_cmp, first_hop, key_cmp}

pub hop_exact : CmpEqualImpliesEq hop_cmp
hop_exact a b h = same_hop a b h

pub hop_total : IsTotalOrder hop_cmp
hop_total = hop_cmp_total

path_exact : (a b : PathType) → path_cmp a b ≡ Equal → a ≡ b
path_exact Intra Intra h = refl
path_exact Inter Inter h = refl
path_exact Ext1 Ext1 h = refl
path_exact Ext2 Ext2 h = refl
path_exact a b h = cc

pub rank_total : IsTotalOrder rank_cmp
rank_total =
    then_total (on_total (λ r. path_number r.path) nat_cmp_total)
    (then_total (on_total (λ r. r.cost2) nat_cmp_total)
    (then_total (on_total (λ r. r.class) nat_cmp_total) (on_total (λ r. r.cost) nat_cmp_total)))

pub rank_exact : CmpEqualImpliesEq rank_cmp
rank_exact a b h =
    let p = then_both (path_cmp a.path b.path) _ h in
    let q = then_both (nat_cmp a.cost2 b.cost2) _ p.1 in
    let r = then_both (nat_cmp a.class b.class) (nat_cmp a.cost b.cost) q.1 in
    λ i. record {
      path = path_exact a.path b.path p.0 i;
      cost2 = exact_unsigned a.cost2 b.cost2 q.0 i;
      class = exact_unsigned a.class b.class r.0 i;
      cost = exact_unsigned a.cost b.cost r.1 i;
    }

first_not_less : (r s : Ordering) → is_lt (ordering_then r s) ≡ false → is_lt r ≡ false
first_not_less Less s h = h
first_not_less Equal s h = refl
first_not_less Greater s h = refl

module _ {K : Type 0} {R : K → K → Ordering} (o : IsTotalOrder R) where
  pub contender_total : IsTotalOrder (contender_cmp R)
  contender_total =
      then_total (then_total (on_total (λ c. c.key) o) (on_total (λ c. c.rank) rank_total)) (on_total (λ c. first_hop c.hops) hop_total)

  -- candidates in this order are in order of their keys
  pub by_keys : (all : List (Candidate K)) → IsSorted (contender_cmp R) all → IsSorted (key_cmp R) all
  by_keys all up k d low below = first_not_less _ _ (first_not_less (candidate_cmp R (get_or all (k + 1) d) (get_or all k d)) _ (up k d low below))
