-- How the entries of a router differ from those that it had.
use Rattle.std.specs.Prelude.{ℕ, ◌==◌, Bool, true, false, ◌&&◌, ◌++◌, not, if◌then◌else◌, is_none, List, length, Option, None, Some}
use Rattle.std.specs.List.{filter, filter_map, list_any}
use Rattle.std.specs.Cmp.Lexicographic.{pointwise}
use Rattle.std.specs.Option.{option_eq, option_map}
use Rattle.std.specs.Ordering.{eq_by_cmp, match_ordering, nat_cmp, ordering_then}
use Rattle.std.specs.declared.cmp.Ordering.{Ordering}
use Rattle.lsa_codec.specs.Order.{prefix_cmp}
use Rattle.lsa_codec.specs.Prefix.{Net}
use Rattle.lsa_codec.specs.declared.address.AreaId.{AreaId}
use Rattle.next_hops.specs.Hop.{hop_cmp}
use Rattle.next_hops.specs.declared.hop.Hop.{Hop}
use Rattle.area_graph.specs.Rising.{rising}
use Rattle.study_words.specs.declared.route_kind.RouteKind.{RouteKind}
use Rattle.study_words.specs.declared.route_kind.RouteKind.TheVariants.{Intra, Inter, External1, External2, Own}
use Rattle.table_changes.specs.declared.change.Change.{Change}
use Rattle.table_changes.specs.declared.change.Change.TheVariants.{Missing, Gained, OtherKind, Costlier, Cheaper, Moved}
use Rattle.table_changes.specs.declared.change.PrefixChange.{PrefixChange}
use Rattle.forwarding.specs.Matches.{RouterValue}
use Rattle.router_entries.specs.Entries.{EntryValue, entry_for, nets_of}

-- ---- two entries for a prefix

abbrev pub same_kind : RouteKind → RouteKind → Bool
same_kind Intra Intra = true
same_kind Inter Inter = true
same_kind External1 External1 = true
same_kind External2 External2 = true
same_kind Own Own = true
same_kind a b = false

-- by the metric of type 2, then by the cost (RFC 2328, 16.4)
abbrev pub cost_cmp : EntryValue → EntryValue → Ordering
cost_cmp a b = ordering_then (nat_cmp a.metric b.metric) (nat_cmp a.cost b.cost)

abbrev pub same_area : Option AreaId → Option AreaId → Bool
same_area before now = option_eq (λ (a : AreaId) (b : AreaId). a.0 == b.0) before now

abbrev pub has_hop : List Hop → Hop → Bool
has_hop hops hop = list_any (eq_by_cmp hop_cmp hop) hops

module _ (rerouted : List Hop) where
  -- one of the hops is among those that lead to other routers
  abbrev pub leads_elsewhere : List Hop → Bool
  leads_elsewhere hops = list_any (has_hop rerouted) hops

  -- through the same area, over the same hops, to the same routers
  abbrev pub same_way : EntryValue → EntryValue → Bool
  same_way before now =
      same_area before.area now.area && pointwise (eq_by_cmp hop_cmp) before.hops now.hops && not (leads_elsewhere now.hops)

  -- of one kind and cost, the entries differ by their ways alone
  abbrev pub moved : EntryValue → EntryValue → Option Change
  moved before now = if same_way before now then None else Some Moved

  -- what differs between two entries, if anything does
  abbrev pub change_between : EntryValue → EntryValue → Option Change
  change_between before now =
      if same_kind before.kind now.kind then match_ordering (cost_cmp before now) (Some Costlier) (moved before now) (Some Cheaper) else Some OtherKind

  -- the same where there may be none
  abbrev pub change_of : Option EntryValue → Option EntryValue → Option Change
  change_of None None = None
  change_of None (Some now) = Some Gained
  change_of (Some before) None = Some Missing
  change_of (Some before) (Some now) = change_between before now

-- ---- all entries of a router

-- the prefixes that have an entry before or now, in order
abbrev pub nets_of_both : RouterValue → RouterValue → List Net
nets_of_both before now = rising prefix_cmp (nets_of before ++ nets_of now)

abbrev pub with_net : Net → Change → PrefixChange
with_net net change = record { net = net; change = change }

module _ (rerouted : List Hop) (before now : RouterValue) where
  -- what differs for a prefix
  abbrev pub change_for : Net → Option Change
  change_for net = change_of rerouted (entry_for before net) (entry_for now net)

  -- the prefix with it
  abbrev pub change_at : Net → Option PrefixChange
  change_at net = option_map (with_net net) (change_for net)

  -- what differs, in order of prefix
  abbrev pub changes : List PrefixChange
  changes = filter_map change_at (nets_of_both before now)

  -- the number of prefixes for which nothing does
  abbrev pub unchanged : ℕ
  unchanged = length (filter (λ net. is_none (change_for net)) (nets_of_both before now))

pub record ChangesValue : Type 0 where
  pub changes : List PrefixChange
  pub unchanged : ℕ

abbrev pub changes_of : List Hop → RouterValue → RouterValue → ChangesValue
changes_of rerouted before now = record { changes = changes rerouted before now; unchanged = unchanged rerouted before now }

-- ---- counts

abbrev pub same_change : Change → Change → Bool
same_change Missing Missing = true
same_change Gained Gained = true
same_change OtherKind OtherKind = true
same_change Costlier Costlier = true
same_change Cheaper Cheaper = true
same_change Moved Moved = true
same_change a b = false

-- how many of the changes are of a kind
abbrev pub count_of : Change → List PrefixChange → ℕ
count_of change changes = length (filter (λ found. same_change found.change change) changes)
