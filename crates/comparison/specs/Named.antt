-- What differs from a baseline, by name.
use Rattle.std.specs.Prelude.{ℕ, Bool, if◌then◌else◌, List, [], ◌∷◌, map, flat_map, Option, None, Some}
use Rattle.std.specs.List.{sum_by}
use Rattle.lsa_codec.specs.Prefix.{Net}
use Rattle.lsa_codec.specs.declared.address.RouterId.{RouterId}
use Rattle.forwarding.specs.Graphs.{routers_of, routes_at}
use Rattle.forwarding.specs.Matches.{RouterValue}
use Rattle.table_changes.specs.Changes.{ChangesValue as TableChangesValue, changes_of}
use Rattle.table_changes.specs.declared.change.Change.{Change}
use Rattle.table_changes.specs.declared.change.Change.TheVariants as change
use Rattle.table_changes.specs.declared.change.PrefixChange.{PrefixChange}
use Rattle.lost_routes.specs.Announced.{announced_in, is_announced}
use Rattle.lost_routes.specs.LostPairs.{lost_pairs}
use Rattle.lost_routes.specs.declared.pairs.RouterPrefix.{RouterPrefix}
use Rattle.change_lines.specs.ChangeTexts.{ChangesValue}
use Rattle.change_lines.specs.Groups.{by_group}
use Rattle.change_lines.specs.declared.change_name.ChangeName.{ChangeName}
use Rattle.change_lines.specs.declared.group.ChangeGroup.{ChangeGroup}
use Rattle.change_lines.specs.declared.group.ChangeGroup.TheVariants as group
use Rattle.change_lines.specs.declared.pair.Pair.{Pair}
use Rattle.comparison.specs.Compared.{Compared, routers_of_both}
use Rattle.comparison.specs.Rerouted.{rerouted}

-- the group of a change; an entry that is missing is lost where somebody announces the prefix, and gone where nobody does
abbrev pub group_of : Bool → Change → ChangeGroup
group_of is_announced change.Missing = if is_announced then group.Lost else group.Gone
group_of is_announced change.Gained = group.Gained
group_of is_announced change.OtherKind = group.OtherKind
group_of is_announced change.Costlier = group.Dearer
group_of is_announced change.Cheaper = group.Cheaper
group_of is_announced change.Moved = group.Moved

-- a router that came or went
abbrev pub router_name : ChangeGroup → RouterId → ChangeName
router_name group router = record { group = group; router = router; net = None }

abbrev pub pair_of : RouterPrefix → Pair
pair_of p = record { router = p.router; net = p.net }

module _ (c : Compared) where
  abbrev pub is_announced_now : Net → Bool
  is_announced_now net = is_announced (announced_in c.baseline) (announced_in c.present) net

  abbrev pub name_of : RouterId → PrefixChange → ChangeName
  name_of router found = record { group = group_of (is_announced_now found.net) found.change; router = router; net = Some found.net }

  -- what differs for a router that is attached in both
  abbrev pub changes_between : RouterValue → RouterValue → TableChangesValue
  changes_between was is = changes_of (rerouted c is) was is

  -- the same by name, where it may be attached in neither
  abbrev pub names_by : RouterId → Option RouterValue → Option RouterValue → List ChangeName
  names_by router None None = []
  names_by router None (Some is) = router_name group.RouterNew router ∷ []
  names_by router (Some was) None = router_name group.RouterGone router ∷ []
  names_by router (Some was) (Some is) = map (name_of router) (changes_between was is).changes

  -- the number of prefixes for which nothing differs
  abbrev pub unchanged_by : Option RouterValue → Option RouterValue → ℕ
  unchanged_by None is = 0
  unchanged_by (Some was) None = 0
  unchanged_by (Some was) (Some is) = (changes_between was is).unchanged

  abbrev pub names_of : RouterId → List ChangeName
  names_of router = names_by router (routes_at (routers_of c.baseline) router) (routes_at (routers_of c.present) router)

  abbrev pub unchanged_of : RouterId → ℕ
  unchanged_of router = unchanged_by (routes_at (routers_of c.baseline) router) (routes_at (routers_of c.present) router)

  -- what differs for some routers, by group, then in their order
  abbrev pub changes_for : List RouterId → ChangesValue
  changes_for routers = record { names = by_group (flat_map names_of routers); unchanged = sum_by unchanged_of routers }

  -- what differs for all routers
  abbrev pub all_changes : ChangesValue
  all_changes = changes_for (routers_of_both c)

  -- the routers with prefixes that they have no entry for any more: somebody announces those of the first list, and nobody
  -- those of the second
  abbrev pub lost : List Pair
  lost = map pair_of (lost_pairs c.baseline c.present).lost

  abbrev pub gone : List Pair
  gone = map pair_of (lost_pairs c.baseline c.present).gone
