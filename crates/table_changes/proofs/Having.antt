-- The prefixes that have an entry.
use Rattle.std.proofs.Common.{◌≡◌, ◌++◌, sym, ap, ◌∙◌, ◌⊎◌, ⊎_elim}
use Rattle.std.specs.Prelude.{◌↔◌, ◌||◌, IsSome, is_some, Contains}
use Rattle.std.specs.List.{list_any}
use Rattle.std.specs.Ordering.{eq_by_cmp}
use Rattle.std.specs.Cmp.{Equal-is}
use Rattle.std.proofs.lemmas.Bool.{or_cases, or_left, or_right}
use Rattle.std.proofs.lemmas.Cmp.{eq_by_cmp_equiv}
use Rattle.std.proofs.lemmas.List.Folds.{list_any-append}
use Rattle.std.proofs.lemmas.Map.Views.{Contains-from_any, list_any-from_Contains}
use Rattle.lsa_codec.specs.Order.{prefix_cmp}
use Rattle.lsa_codec.specs.Prefix.{Net}
use Rattle.lsa_codec.proofs.OrderLemmas.{prefix_exact, prefix_total}
use Rattle.best_ways.proofs.RisingLemmas.{any_rising}
use Rattle.forwarding.specs.Matches.{RouterValue}
use Rattle.router_entries.proofs.EntryLemmas.{any_of}
use Rattle.table_changes.specs.Changes.{nets_of_both}
use Rattle.router_entries.specs.Entries.{entry_for, nets_of}

module _ (before now : RouterValue) (q : Net) where
  any_of_both : list_any (eq_by_cmp prefix_cmp q) (nets_of_both before now) ≡ (is_some (entry_for before q) || is_some (entry_for now q))
  any_of_both =
      any_rising prefix_total q (nets_of before ++ nets_of now)
      ∙ list_any-append (eq_by_cmp prefix_cmp q) (nets_of before) (nets_of now)
      ∙ ap (λ b. b || list_any (eq_by_cmp prefix_cmp q) (nets_of now)) (any_of before q)
      ∙ ap (λ b. is_some (entry_for before q) || b) (any_of now q)

  -- they are exactly those of both lists
  pub nets_have : Contains (nets_of_both before now) q ↔ (IsSome (entry_for before q) ⊎ IsSome (entry_for now q))
  nets_have = (
    λ c. or_cases (is_some (entry_for before q)) (is_some (entry_for now q))
        (sym any_of_both ∙ list_any-from_Contains (eq_by_cmp_equiv prefix_total) q (nets_of_both before now) c),
    λ some. Contains-from_any (λ x y h. prefix_exact x y ((Equal-is (prefix_cmp x y)).0 h)) q (nets_of_both before now)
        (any_of_both
        ∙ ⊎_elim (λ s. or_left (is_some (entry_for before q)) (is_some (entry_for now q)) s)
        (λ s. or_right (is_some (entry_for before q)) (is_some (entry_for now q)) s) some),
  )
