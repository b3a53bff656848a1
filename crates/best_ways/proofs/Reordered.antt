-- The ways of candidates in another order.
use Rattle.std.proofs.Common.{◌≡◌, Bool, false, List, Option, Some, None, sym, ◌∙◌}
use Rattle.std.specs.Prelude.{◌&&◌}
use Rattle.std.specs.List.{list_any}
use Rattle.std.specs.List.Sorted.{IsPermutation}
use Rattle.std.specs.Cmp.{IsTotalOrder}
use Rattle.std.specs.Option.{MatchOption}
use Rattle.std.specs.Ordering.{eq_by_cmp, is_lt}
use Rattle.std.specs.declared.cmp.Ordering.{Ordering}
use Rattle.std.proofs.lemmas.List.Sorted.{list_any-IsPermutation}
use Rattle.std.proofs.lemmas.Map.Lookups.{CmpEqualImpliesEq}
use Rattle.lsa_codec.specs.Order.{area_cmp}
use Rattle.next_hops.specs.Hop.{hop_cmp}
use Rattle.best_ways.specs.Best.{ways_of}
use Rattle.best_ways.specs.Candidate.{Candidate}
use Rattle.best_ways.specs.InWords.{attains, is_candidate_to, is_some_and, IsBestWay}
use Rattle.best_ways.specs.Order.{rank_cmp}
use Rattle.best_ways.specs.Values.{WayValue}
use Rattle.best_ways.proofs.Words.{only_ways, ways_are_best}

module _ {K : Type 0} {R : K → K → Ordering} (o : IsTotalOrder R) (exact : CmpEqualImpliesEq R) (cs ds : List (Candidate K))
    (any : (p : Candidate K → Bool) → list_any p cs ≡ list_any p ds) where
  best : (key : K) (w : Option WayValue) → MatchOption w (list_any (is_candidate_to R key) ds ≡ false) (IsBestWay R ds key)
      → MatchOption w (list_any (is_candidate_to R key) cs ≡ false) (IsBestWay R cs key)
  best key None h = any (is_candidate_to R key) ∙ h
  best key (Some w) h = record {
    attained = any (attains R key w.rank) ∙ h.attained;
    least = any (λ c. is_candidate_to R key c && is_lt (rank_cmp c.rank w.rank)) ∙ h.least;
    hops = λ hop. h.hops hop ∙ sym (any (λ c. attains R key w.rank c && list_any (eq_by_cmp hop_cmp hop) c.hops));
    areas = λ area. h.areas area ∙ sym (any (λ c. attains R key w.rank c && is_some_and (eq_by_cmp area_cmp area) c.area));
    areas_rise = h.areas_rise;
    hops_rise = h.hops_rise;
  }

  -- where each test passes on one of the former just where it does on one of the latter
  pub same_tests : ways_of R ds ≡ ways_of R cs
  same_tests =
      let all = ways_are_best o exact ds in
      only_ways o exact cs (ways_of R ds) (record { keys_rise = all.keys_rise; at_key = λ key. best key _ (all.at_key key) })

pub reordered : {K : Type 0} {R : K → K → Ordering} → IsTotalOrder R → CmpEqualImpliesEq R → (cs ds : List (Candidate K)) → IsPermutation cs ds
    → ways_of R ds ≡ ways_of R cs
reordered o exact cs ds moved = same_tests o exact cs ds (λ p. list_any-IsPermutation p cs ds moved)
