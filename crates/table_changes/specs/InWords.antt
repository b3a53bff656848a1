-- The kinds of changes in words, and what makes a list of changes the one of two tables.
use Rattle.std.specs.Prelude.{◌≡◌, ◌<◌, ◌↔◌, ◌⊎◌, List, Contains, Option, None, Some, All, map}
use Rattle.std.specs.List.Sorted.{IsStrictlySortedBy}
use Rattle.lsa_codec.specs.Order.{prefix_cmp}
use Rattle.lsa_codec.specs.Prefix.{Net}
use Rattle.next_hops.specs.declared.hop.Hop.{Hop}
use Rattle.table_changes.specs.declared.change.Change.{Change}
use Rattle.table_changes.specs.declared.change.Change.TheVariants.{Missing, Gained, OtherKind, Costlier, Cheaper, Moved}
use Rattle.table_changes.specs.declared.change.PrefixChange.{PrefixChange}
use Rattle.table_changes.specs.Changes.{change_for, with_net}
use Rattle.forwarding.specs.Matches.{RouterValue}
use Rattle.router_entries.specs.Entries.{EntryValue}

-- ---- two entries for a prefix

-- the metric of type 2 is less, or it is the same and the cost is less
abbrev pub CostsLess : EntryValue → EntryValue → Type 0
CostsLess a b = (a.metric < b.metric) ⊎ ((a.metric ≡ b.metric) × (a.cost < b.cost))

-- neither costs more
pub record CostTheSame (a b : EntryValue) : Type 0 where
  pub metric : a.metric ≡ b.metric
  pub cost : a.cost ≡ b.cost

module _ (rerouted : List Hop) where
  -- through the same area, over the same hops, none of which leads to other routers
  pub record LeadTheSameWay (before now : EntryValue) : Type 0 where
    pub area : before.area ≡ now.area
    pub hops : before.hops ≡ now.hops
    pub routers : All (λ hop. ¬ Contains rerouted hop) now.hops

  -- what each kind of change is between two entries
  abbrev pub IsBetween : Change → EntryValue → EntryValue → Type 0
  IsBetween Missing before now = ⊥
  IsBetween Gained before now = ⊥
  IsBetween OtherKind before now = ¬ (before.kind ≡ now.kind)
  IsBetween Costlier before now = (before.kind ≡ now.kind) × CostsLess before now
  IsBetween Cheaper before now = (before.kind ≡ now.kind) × CostsLess now before
  IsBetween Moved before now = (before.kind ≡ now.kind) × CostTheSame before now × ¬ LeadTheSameWay before now

  -- the same where there may be none
  abbrev pub IsChange : Change → Option EntryValue → Option EntryValue → Type 0
  IsChange change None None = ⊥
  IsChange change None (Some now) = change ≡ Gained
  IsChange change (Some before) None = change ≡ Missing
  IsChange change (Some before) (Some now) = IsBetween change before now

-- ---- all entries of a router

-- in order of prefix, each once, exactly the prefixes for which something differs, each with that
pub record AreChanges (rerouted : List Hop) (before now : RouterValue) (changes : List PrefixChange) : Type 0 where
  pub order : IsStrictlySortedBy prefix_cmp (map (λ c. c.net) changes)
  pub each : (net : Net) (change : Change) → Contains changes (with_net net change)
      ↔ (change_for rerouted before now net ≡ Some change)
