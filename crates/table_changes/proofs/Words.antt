-- A change is of the kind whose words hold.
use Rattle.std.proofs.Common.{◌≡◌, Bool, true, false, cond, List, Option, Some, None, Decides, refl, sym, ap}
use Rattle.std.specs.Prelude.{◌↔◌}
use Rattle.std.specs.Ordering.{MatchOrdering, match_ordering}
use Rattle.std.specs.declared.cmp.Ordering.{Ordering}
use Rattle.std.specs.declared.cmp.Ordering.TheVariants.{Less, Equal, Greater}
use Rattle.std.proofs.lemmas.Bool.{false≢true}
use Rattle.next_hops.specs.declared.hop.Hop.{Hop}
use Rattle.table_changes.specs.declared.change.Change.{Change}
use Rattle.table_changes.specs.declared.change.Change.TheVariants.{Missing, Gained, OtherKind, Costlier, Cheaper, Moved}
use Rattle.table_changes.specs.Changes.{change_between, change_of, cost_cmp, same_kind, same_way}
use Rattle.router_entries.specs.Entries.{EntryValue}
use Rattle.table_changes.specs.InWords.{CostTheSame, CostsLess, IsBetween, IsChange, LeadTheSameWay}
use Rattle.table_changes.proofs.Costs.{costs, not_both, not_less, not_more}
use Rattle.table_changes.proofs.SameKinds.{same_kind_decides}
use Rattle.table_changes.proofs.Ways.{way_decides}

module _ (rerouted : List Hop) (before now : EntryValue) where
  -- what is found where the tests find these
  abbrev found : Bool → Ordering → Bool → Option Change
  found kind cost way = cond kind (match_ordering cost (Some Costlier) (cond way None (Some Moved)) (Some Cheaper)) (Some OtherKind)

  abbrev SameKind : Type 0
  SameKind = before.kind ≡ now.kind

  abbrev Costs : Ordering → Type 0
  Costs cost = MatchOrdering cost (CostsLess before now) (CostTheSame before now) (CostsLess now before)

  -- what is found is what the words say
  found_is : (kind : Bool) (cost : Ordering) (way : Bool) → Decides kind SameKind → Costs cost → Decides way (LeadTheSameWay rerouted before now)
      → (change : Change) → found kind cost way ≡ Some change → IsBetween rerouted change before now
  found_is false cost way same ranks leads Missing h = cc
  found_is false cost way same ranks leads Gained h = cc
  found_is false cost way same ranks leads OtherKind h = λ e. false≢true (same.1 e)
  found_is false cost way same ranks leads Costlier h = cc
  found_is false cost way same ranks leads Cheaper h = cc
  found_is false cost way same ranks leads Moved h = cc
  found_is true Less way same ranks leads Costlier h = (same.0 refl, ranks)
  found_is true Greater way same ranks leads Cheaper h = (same.0 refl, ranks)
  found_is true Equal false same ranks leads Moved h = (same.0 refl, ranks, λ w. false≢true (leads.1 w))
  found_is true cost way same ranks leads change h = cc

  -- what the words say is found
  is_found : (kind : Bool) (cost : Ordering) (way : Bool) → Decides kind SameKind → Costs cost → Decides way (LeadTheSameWay rerouted before now)
      → (change : Change) → IsBetween rerouted change before now → found kind cost way ≡ Some change
  is_found kind cost way same ranks leads Missing is = absurd is
  is_found kind cost way same ranks leads Gained is = absurd is
  is_found true cost way same ranks leads OtherKind is = absurd (is (same.0 refl))
  is_found false cost way same ranks leads OtherKind is = refl
  is_found false cost way same ranks leads Costlier is = absurd (false≢true (same.1 is.0))
  is_found false cost way same ranks leads Cheaper is = absurd (false≢true (same.1 is.0))
  is_found false cost way same ranks leads Moved is = absurd (false≢true (same.1 is.0))
  is_found true Less way same ranks leads Costlier is = refl
  is_found true Equal way same ranks leads Costlier is = absurd (not_less before now ranks is.1)
  is_found true Greater way same ranks leads Costlier is = absurd (not_both now before ranks is.1)
  is_found true Less way same ranks leads Cheaper is = absurd (not_both before now ranks is.1)
  is_found true Equal way same ranks leads Cheaper is = absurd (not_more before now ranks is.1)
  is_found true Greater way same ranks leads Cheaper is = refl
  is_found true Less way same ranks leads Moved is = absurd (not_less before now is.1 ranks)
  is_found true Equal true same ranks leads Moved is = absurd (is.2 (leads.0 refl))
  is_found true Equal false same ranks leads Moved is = refl
  is_found true Greater way same ranks leads Moved is = absurd (not_more before now is.1 ranks)

  between_in_words : (change : Change) → (change_between rerouted before now ≡ Some change) ↔ IsBetween rerouted change before now
  between_in_words change =
      let kind = same_kind before.kind now.kind in
      let cost = cost_cmp before now in
      let way = same_way rerouted before now in
      let same = same_kind_decides before.kind now.kind in
      let leads = way_decides rerouted before now in (
        found_is kind cost way same (costs before now) leads change,
        is_found kind cost way same (costs before now) leads change,
      )

pub in_words : (rerouted : List Hop) (before now : Option EntryValue) (change : Change)
    → (change_of rerouted before now ≡ Some change) ↔ IsChange rerouted change before now
in_words rerouted None None change = (λ h. cc, λ f. absurd f)
in_words rerouted None (Some now) change = (λ h. cc, λ is. ap Some (sym is))
in_words rerouted (Some before) None change = (λ h. cc, λ is. ap Some (sym is))
in_words rerouted (Some before) (Some now) change = between_in_words rerouted before now change
