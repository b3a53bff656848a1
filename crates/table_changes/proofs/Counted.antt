-- How many prefixes have a change of each kind, and how many have none.
use Rattle.std.proofs.Common.{◌≡◌, ℕ, ◌+◌, cond, List, [], ◌∷◌, length, Option, Some, None, refl, ap, ◌∙◌, arith}
use Rattle.std.specs.Prelude.{is_none}
use Rattle.std.specs.List.{cons_option, filter, filter_map}
use Rattle.std.specs.Option.{option_map}
use Rattle.lsa_codec.specs.Prefix.{Net}
use Rattle.next_hops.specs.declared.hop.Hop.{Hop}
use Rattle.table_changes.specs.declared.change.Change.{Change}
use Rattle.table_changes.specs.declared.change.Change.TheVariants.{Missing, Gained, OtherKind, Costlier, Cheaper, Moved}
use Rattle.table_changes.specs.declared.change.PrefixChange.{PrefixChange}
use Rattle.table_changes.specs.Changes.{change_at, change_for, changes, count_of, nets_of_both, unchanged, with_net}
use Rattle.forwarding.specs.Matches.{RouterValue}

-- ---- changes of all kinds

abbrev all_kinds : List PrefixChange → ℕ
all_kinds found =
    count_of Missing found + count_of Gained found + count_of OtherKind found + count_of Costlier found + count_of Cheaper found
    + count_of Moved found

one_more : (net : Net) (change : Change) (found : List PrefixChange) → all_kinds (with_net net change ∷ found) ≡ all_kinds found + 1
one_more net Missing found = omega arith
one_more net Gained found = omega arith
one_more net OtherKind found = omega arith
one_more net Costlier found = omega arith
one_more net Cheaper found = omega arith
one_more net Moved found = omega arith

-- ---- with the prefixes that have none

module _ (for : Net → Option Change) where
  abbrev listed : List Net → List PrefixChange
  listed nets = filter_map (λ net. option_map (with_net net) (for net)) nets

  abbrev others : List Net → List Net
  others nets = filter (λ net. is_none (for net)) nets

  module _ (number : List PrefixChange → ℕ) (none : number [] ≡ 0) (more : (c : PrefixChange) (cs : List PrefixChange) → number (c ∷ cs) ≡ number cs + 1) where
    counted_by : (nets : List Net) → number (listed nets) + length (others nets) ≡ length nets
    counted_by [] = omega (arith, none)
    counted_by (net ∷ nets) = by_change (for net) (counted_by nets)
      where
        by_change : (v : Option Change) → number (listed nets) + length (others nets) ≡ length nets
            → number (cons_option (option_map (with_net net) v) (listed nets))
            + length (cond (is_none v) (net ∷ others nets) (others nets))
            ≡ length (net ∷ nets)
        by_change None rest = omega arith
        by_change (Some c) rest = omega (arith, more (with_net net c) (listed nets))

  pub counted : (nets : List Net) → all_kinds (listed nets) + length (others nets) ≡ length nets
  counted nets = counted_by all_kinds refl (λ c cs. one_more c.net c.change cs) nets

  pub lengths : (nets : List Net) → length (listed nets) + length (others nets) ≡ length nets
  lengths nets = counted_by (λ found. length found) refl (λ c cs. omega arith) nets

-- the changes of all prefixes, and how many have none
module _ (rerouted : List Hop) (before now : RouterValue) (nets seen : List Net) (found : List PrefixChange) where
  module _ (all : nets ≡ nets_of_both before now) (same : seen ≡ nets) (is : found ≡ filter_map (change_at rerouted before now) seen) where
    pub are_all : found ≡ changes rerouted before now
    are_all = is ∙ ap (filter_map (change_at rerouted before now)) (same ∙ all)

    pub number_of_all : length found + unchanged rerouted before now ≡ length nets
    number_of_all = omega (arith, ap length all, ap length are_all, lengths (change_for rerouted before now) (nets_of_both before now))
