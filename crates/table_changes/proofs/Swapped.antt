-- The same changes from the other side, and none between entries and themselves.
use Rattle.std.proofs.Common.{◌≡◌, Bool, true, false, cond, List, [], ◌∷◌, ◌++◌, length, map, Option, Some, None, refl, sym, ap, subst, ◌∙◌, arith}
use Rattle.std.specs.Prelude.{◌||◌, All, Contains, is_none}
use Rattle.std.specs.List.{cons_option, filter, filter_map, list_any}
use Rattle.std.specs.Option.{option_map}
use Rattle.std.specs.Ordering.{eq_by_cmp, match_ordering, ordering_reverse}
use Rattle.std.specs.declared.cmp.Ordering.{Ordering}
use Rattle.std.specs.declared.cmp.Ordering.TheVariants.{Less, Equal, Greater}
use Rattle.std.proofs.lemmas.Bool.Decides.{same_from_decides}
use Rattle.std.proofs.lemmas.Cmp.{tied_itself}
use Rattle.std.proofs.lemmas.List.Elements.{filter_agree}
use Rattle.std.proofs.lemmas.List.Folds.{list_any-append}
use Rattle.lsa_codec.specs.Order.{prefix_cmp}
use Rattle.lsa_codec.specs.Prefix.{Net}
use Rattle.lsa_codec.proofs.OrderLemmas.{prefix_exact, prefix_total}
use Rattle.next_hops.specs.declared.hop.Hop.{Hop}
use Rattle.best_ways.proofs.RisingLemmas.{rising_same}
use Rattle.table_changes.specs.declared.change.Change.{Change}
use Rattle.table_changes.specs.declared.change.Change.TheVariants.{OtherKind, Costlier, Cheaper, Moved}
use Rattle.table_changes.specs.Changes.{change_at, change_between, change_for, change_of, changes, changes_of, cost_cmp, nets_of_both, same_kind, same_way, unchanged, with_net}
use Rattle.forwarding.specs.Matches.{RouterValue}
use Rattle.router_entries.specs.Entries.{EntryValue, entry_for, nets_of}
use Rattle.table_changes.specs.InWords.{LeadTheSameWay}
use Rattle.table_changes.specs.Swapping.{opposite, swapped, swapped_change}
use Rattle.table_changes.proofs.Costs.{cost_total}
use Rattle.table_changes.proofs.SameKinds.{same_kind_decides}
use Rattle.table_changes.proofs.Ways.{way_decides}

-- what is found where the tests find these
abbrev found : Bool → Ordering → Bool → Option Change
found kind cost way = cond kind (match_ordering cost (Some Costlier) (cond way None (Some Moved)) (Some Cheaper)) (Some OtherKind)

found_swaps : (kind : Bool) (cost : Ordering) (way : Bool) → found kind (ordering_reverse cost) way ≡ option_map opposite (found kind cost way)
found_swaps false cost way = refl
found_swaps true Less way = refl
found_swaps true Equal true = refl
found_swaps true Equal false = refl
found_swaps true Greater way = refl

-- ---- entries and themselves

itself : (entry : EntryValue) → change_between [] entry entry ≡ None
itself entry =
    let kind = (same_kind_decides entry.kind entry.kind).1 refl in
    let cost = tied_itself cost_total entry in
    let way = (way_decides [] entry entry).1 (record { area = refl; hops = refl; routers = λ k hop within c. absurd (omega (arith, c.1)) }) in
    ap (λ (b : Bool). found b (cost_cmp entry entry) (same_way [] entry entry)) kind
    ∙ ap (λ (o : Ordering). found true o (same_way [] entry entry)) cost ∙ ap (λ (b : Bool). found true Equal b) way

same_as_itself : (entry : Option EntryValue) → change_of [] entry entry ≡ None
same_as_itself None = refl
same_as_itself (Some entry) = itself entry

none_at : (entries : RouterValue) (nets : List Net) → filter_map (change_at [] entries entries) nets ≡ []
none_at entries [] = refl
none_at entries (net ∷ nets) =
    ap (λ (v : Option Change). cons_option (option_map (with_net net) v) (filter_map (change_at [] entries entries) nets))
    (same_as_itself (entry_for entries net))
    ∙ none_at entries nets

pub no_changes : (entries : RouterValue) → changes [] entries entries ≡ []
no_changes entries = none_at entries (nets_of_both entries entries)

-- ---- the other side

or_comm : (a b : Bool) → (a || b) ≡ (b || a)
or_comm true true = refl
or_comm true false = refl
or_comm false true = refl
or_comm false false = refl

nets_swap : (before now : RouterValue) → nets_of_both now before ≡ nets_of_both before now
nets_swap before now =
    rising_same prefix_total prefix_exact (nets_of now ++ nets_of before) (nets_of before ++ nets_of now) (λ q.
    let has = eq_by_cmp prefix_cmp q in
    list_any-append has (nets_of now) (nets_of before) ∙ or_comm (list_any has (nets_of now)) (list_any has (nets_of before))
    ∙ sym (list_any-append has (nets_of before) (nets_of now)))

module _ (rerouted : List Hop) where
  way_swaps : (before now : EntryValue) → LeadTheSameWay rerouted before now → LeadTheSameWay rerouted now before
  way_swaps before now way = record {
    area = sym way.area;
    hops = sym way.hops;
    routers = subst (All (λ hop. ¬ Contains rerouted hop)) (sym way.hops) way.routers;
  }

  between_swaps : (before now : EntryValue) → change_between rerouted now before ≡ option_map opposite (change_between rerouted before now)
  between_swaps before now =
      let one = same_kind_decides before.kind now.kind in
      let other = same_kind_decides now.kind before.kind in
      let kind =
      same_from_decides {P = before.kind ≡ now.kind} (same_kind now.kind before.kind) (same_kind before.kind now.kind) (λ h. sym (other.0 h), λ e. other.1 (sym e)) one in
      let cost = cost_total.antisymm now before in
      let here = way_decides rerouted before now in
      let there = way_decides rerouted now before in
      let way =
      same_from_decides {P = LeadTheSameWay rerouted before now} (same_way rerouted now before) (same_way rerouted before now)
      (λ h. way_swaps now before (there.0 h), λ w. there.1 (way_swaps before now w)) here in
      ap (λ (b : Bool). found b (cost_cmp now before) (same_way rerouted now before)) kind
      ∙ ap (λ (o : Ordering). found (same_kind before.kind now.kind) o (same_way rerouted now before)) cost
      ∙ ap (λ (b : Bool). found (same_kind before.kind now.kind) (ordering_reverse (cost_cmp before now)) b) way
      ∙ found_swaps (same_kind before.kind now.kind) (cost_cmp before now) (same_way rerouted before now)

  change_swaps : (before now : Option EntryValue) → change_of rerouted now before ≡ option_map opposite (change_of rerouted before now)
  change_swaps None None = refl
  change_swaps None (Some now) = refl
  change_swaps (Some before) None = refl
  change_swaps (Some before) (Some now) = between_swaps before now

  module _ (before now : RouterValue) where
    for_swaps : (net : Net) → change_for rerouted now before net ≡ option_map opposite (change_for rerouted before now net)
    for_swaps net = change_swaps (entry_for before net) (entry_for now net)

    at_swaps : (nets : List Net) → filter_map (change_at rerouted now before) nets ≡ map swapped_change (filter_map (change_at rerouted before now) nets)
    at_swaps [] = refl
    at_swaps (net ∷ nets) =
        ap (λ (v : Option Change). cons_option (option_map (with_net net) v) (filter_map (change_at rerouted now before) nets))
        (for_swaps net)
        ∙ by_change (change_for rerouted before now net) (at_swaps nets)
      where
        by_change : (v : Option Change)
            → filter_map (change_at rerouted now before) nets ≡ map swapped_change (filter_map (change_at rerouted before now) nets)
            → cons_option (option_map (with_net net) (option_map opposite v)) (filter_map (change_at rerouted now before) nets)
            ≡ map swapped_change (cons_option (option_map (with_net net) v) (filter_map (change_at rerouted before now) nets))
        by_change None rest = rest
        by_change (Some change) rest = ap (λ l. with_net net (opposite change) ∷ l) rest

    none_swaps : (v : Option Change) → is_none (option_map opposite v) ≡ is_none v
    none_swaps None = refl
    none_swaps (Some change) = refl

    unchanged_swaps : unchanged rerouted now before ≡ unchanged rerouted before now
    unchanged_swaps =
        ap (λ (nets : List Net). length (filter (λ net. is_none (change_for rerouted now before net)) nets)) (nets_swap before now)
        ∙ ap length
        (filter_agree (λ net. is_none (change_for rerouted now before net)) (λ net. is_none (change_for rerouted before now net))
        (λ net. ap is_none (for_swaps net) ∙ none_swaps (change_for rerouted before now net)) (nets_of_both before now))

    pub all_swap : changes_of rerouted now before ≡ swapped (changes_of rerouted before now)
    all_swap = λ i. record {
      changes = (ap (filter_map (change_at rerouted now before)) (nets_swap before now) ∙ at_swaps (nets_of_both before now)) i;
      unchanged = unchanged_swaps i;
    }
