-- The changes of a list of prefixes: in order, and exactly those for which something differs.
use Rattle.std.proofs.Common.{◌≡◌, List, [], ◌∷◌, ◌++◌, map, Option, Some, None, refl, sym, ap, subst, ◌∙◌, ◌⊎◌, inl, inr}
use Rattle.std.specs.Prelude.{IsSome, Contains}
use Rattle.std.specs.List.{cons_option, filter_map}
use Rattle.std.specs.List.Sorted.{IsStrictlySortedBy}
use Rattle.std.specs.Map.{keys_of}
use Rattle.std.specs.Option.{option_map}
use Rattle.lsa_codec.specs.Order.{prefix_cmp}
use Rattle.lsa_codec.specs.Prefix.{Net}
use Rattle.lsa_codec.proofs.OrderLemmas.{prefix_total}
use Rattle.next_hops.specs.declared.hop.Hop.{Hop}
use Rattle.area_graph.proofs.MemberLemmas.{Contains-from_In, In-filter_map, In-from_Contains, filter_map-In}
use Rattle.best_ways.proofs.LookupLemmas.{entries_at, sorted_entries}
use Rattle.best_ways.proofs.RisingLemmas.{sorted_rising}
use Rattle.table_changes.specs.declared.change.Change.{Change}
use Rattle.table_changes.specs.declared.change.PrefixChange.{PrefixChange}
use Rattle.table_changes.specs.Changes.{change_at, change_for, change_of, changes, nets_of_both, with_net}
use Rattle.forwarding.specs.Matches.{RouterValue}
use Rattle.router_entries.specs.Entries.{EntryValue, entry_for, nets_of}
use Rattle.table_changes.specs.InWords.{AreChanges}
use Rattle.table_changes.proofs.Having.{nets_have}

-- something differs only where there is an entry
some_entry : (rerouted : List Hop) (before now : Option EntryValue) (change : Change) → change_of rerouted before now ≡ Some change
    → IsSome before ⊎ IsSome now
some_entry rerouted None None change h = cc
some_entry rerouted None (Some now) change h = inr refl
some_entry rerouted (Some before) now change h = inl refl

module _ (rerouted : List Hop) (before now : RouterValue) where
  abbrev at : Net → Option PrefixChange
  at = change_at rerouted before now

  abbrev for : Net → Option Change
  for = change_for rerouted before now

  nets_listed : (ks : List Net) → map (λ (c : PrefixChange). c.net) (filter_map at ks) ≡ keys_of (entries_at prefix_cmp for ks)
  nets_listed [] = refl
  nets_listed (k ∷ ks) = by_change (for k) (nets_listed ks)
    where
      by_change : (v : Option Change) → map (λ (c : PrefixChange). c.net) (filter_map at ks) ≡ keys_of (entries_at prefix_cmp for ks)
          → map (λ (c : PrefixChange). c.net) (cons_option (option_map (with_net k) v) (filter_map at ks))
          ≡ keys_of (cons_option (option_map (λ c. (k, c)) v) (entries_at prefix_cmp for ks))
      by_change None rest = rest
      by_change (Some c) rest = ap (λ l. k ∷ l) rest

  in_order : IsStrictlySortedBy prefix_cmp (map (λ (c : PrefixChange). c.net) (changes rerouted before now))
  in_order =
      subst (IsStrictlySortedBy prefix_cmp) (sym (nets_listed (nets_of_both before now)))
      (sorted_entries prefix_cmp for (nets_of_both before now) (sorted_rising prefix_total (nets_of before ++ nets_of now)))

  module _ (net : Net) (change : Change) where
    same_change : (x : Net) (v : Option Change) → for x ≡ v → option_map (with_net x) v ≡ Some (with_net net change) → for net ≡ Some change
    same_change x None is h = cc
    same_change x (Some c) is h =
        let same : with_net x c ≡ with_net net change = cc in
        ap for (sym (ap (λ (p : PrefixChange). p.net) same)) ∙ is ∙ ap Some (ap (λ (p : PrefixChange). p.change) same)

    listed : Contains (changes rerouted before now) (with_net net change) → for net ≡ Some change
    listed c =
        let from = filter_map-In at (nets_of_both before now) (with_net net change) (In-from_Contains (changes rerouted before now) (with_net net change) c) in
        same_change from.0 (for from.0) refl from.2

    is_listed : for net ≡ Some change → Contains (changes rerouted before now) (with_net net change)
    is_listed h =
        Contains-from_In (changes rerouted before now) (with_net net change)
        (In-filter_map at (nets_of_both before now) net (with_net net change)
        (In-from_Contains (nets_of_both before now) net
        ((nets_have before now net).1 (some_entry rerouted (entry_for before net) (entry_for now net) change h)))
        (ap (option_map (with_net net)) h))

  pub are_changes : AreChanges rerouted before now (changes rerouted before now)
  are_changes = record { order = in_order; each = λ net change. (listed net change, is_listed net change) }
