use Rattle.std.proofs.Common.{List, ℕ, subst}
use Rattle.std.specs.List.Sorted.{IsPermutation}
use Rattle.std.proofs.lemmas.List.Sorted.{IsNonDecreasingBy-from_sort}
use Rattle.area_graph.proofs.back_links.sorted_targets.Goals as goal

pub returns : goal.returns
returns g c = λ long. record {
  rising = IsNonDecreasingBy-from_sort (λ n. n) c.sort.new.self.items c.in_ok-sort.ensures.sorted;
  same = subst (λ (xs : List ℕ). IsPermutation xs c.sort.new.self.items) c.in_ok-targets.ensures c.in_ok-sort.ensures.permutation;
}
