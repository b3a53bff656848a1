-- What the order of costs says of them.
use Rattle.std.proofs.Common.{◌≡◌, ◌<◌, inl, inr, refl, sym, arith}
use Rattle.std.specs.Cmp.{IsTotalOrder}
use Rattle.std.specs.Ordering.{MatchOrdering, nat_cmp, ordering_then}
use Rattle.std.specs.declared.cmp.Ordering.{Ordering}
use Rattle.std.specs.declared.cmp.Ordering.TheVariants.{Less, Equal, Greater}
use Rattle.std.proofs.lemmas.Cmp.{nat_cmp_total, on_total, ranked, then_total}
use Rattle.table_changes.specs.Changes.{cost_cmp}
use Rattle.router_entries.specs.Entries.{EntryValue}
use Rattle.table_changes.specs.InWords.{CostTheSame, CostsLess}

pub cost_total : IsTotalOrder cost_cmp
cost_total = then_total (on_total (λ (e : EntryValue). e.metric) nat_cmp_total) (on_total (λ (e : EntryValue). e.cost) nat_cmp_total)

module _ (a b : EntryValue) where
  by_parts : (r s : Ordering) → MatchOrdering r (a.metric < b.metric) (a.metric ≡ b.metric) (b.metric < a.metric)
      → MatchOrdering s (a.cost < b.cost) (a.cost ≡ b.cost) (b.cost < a.cost)
      → MatchOrdering (ordering_then r s) (CostsLess a b) (CostTheSame a b) (CostsLess b a)
  by_parts Less s metric cost = inl metric
  by_parts Equal Less metric cost = inr (metric, cost)
  by_parts Equal Equal metric cost = record { metric = metric; cost = cost }
  by_parts Equal Greater metric cost = inr (sym metric, cost)
  by_parts Greater s metric cost = inl metric

  pub costs : MatchOrdering (cost_cmp a b) (CostsLess a b) (CostTheSame a b) (CostsLess b a)
  costs =
      by_parts (nat_cmp a.metric b.metric) (nat_cmp a.cost b.cost) (ranked a.metric b.metric (nat_cmp a.metric b.metric) refl)
      (ranked a.cost b.cost (nat_cmp a.cost b.cost) refl)

  pub not_both : CostsLess a b → CostsLess b a → ⊥
  not_both (inl m) (inl n) = absurd (omega arith)
  not_both (inl m) (inr (n, c)) = absurd (omega arith)
  not_both (inr (m, c)) (inl n) = absurd (omega arith)
  not_both (inr (m, c)) (inr (n, d)) = absurd (omega arith)

  pub not_less : CostTheSame a b → CostsLess a b → ⊥
  not_less same (inl m) = absurd (omega arith)
  not_less same (inr (m, c)) = absurd (omega arith)

  pub not_more : CostTheSame a b → CostsLess b a → ⊥
  not_more same (inl m) = absurd (omega arith)
  not_more same (inr (m, c)) = absurd (omega arith)
