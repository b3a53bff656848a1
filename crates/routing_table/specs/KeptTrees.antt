-- Sets of shortest-path trees, as those that a planner keeps.
use Rattle.std.specs.Prelude.{◌≡◌, Bool, true, false, not, List, filter}
use Rattle.std.specs.List.{list_any}
use Rattle.std.specs.Map.{lookup}
use Rattle.std.specs.Option.{option_map_or}
use Rattle.std.specs.Ordering.{eq_by_cmp}
use Rattle.lsa_codec.specs.declared.address.AreaId.{AreaId}
use Rattle.lsa_codec.specs.declared.address.RouterId.{RouterId}
use Rattle.lsdb.specs.Lists.{AreaHead}
use Rattle.lsa_codec.specs.Order.{area_cmp, router_cmp}

-- of areas the routers whose trees in the area are kept
abbrev pub KeptRouters : Type 0
KeptRouters = List (AreaId × List RouterId)

-- of each area and router, whether the router's tree in the area is in a set
abbrev pub TreeSet : Type 0
TreeSet = AreaId → RouterId → Bool

abbrev pub is_kept : KeptRouters → TreeSet
is_kept kept area router = option_map_or (list_any (eq_by_cmp router_cmp router)) (lookup (eq_by_cmp area_cmp area) kept) false

-- what is kept, less the trees of touched areas
abbrev pub less_touched : (AreaId → Bool) → KeptRouters → KeptRouters
less_touched is_touched kept = filter (λ routers. not (is_touched routers.0)) kept

-- of some areas those in which the tree of a router is not in the set
abbrev pub areas_without_tree : TreeSet → RouterId → List AreaHead → List AreaHead
areas_without_tree trees router areas = filter (λ area. not (trees (record { 0 = area.id }) router)) areas

-- the trees of the first set are in the second
abbrev pub IsWithin : TreeSet → TreeSet → Type 0
IsWithin some all = (area : AreaId) (router : RouterId) → some area router ≡ true → all area router ≡ true

-- the second set has no tree that the first lacks, but those of one router in areas that pass a test
abbrev pub GainsOnly : (AreaId → Bool) → RouterId → TreeSet → TreeSet → Type 0
GainsOnly passes router old new =
    (area : AreaId) (root : RouterId) → new area root ≡ true → old area root ≡ false → (root ≡ router) × (passes area ≡ true)

-- of some areas those in which the second set has the tree of a router, and the first lacks it
abbrev pub areas_gained : TreeSet → TreeSet → RouterId → List AreaHead → List AreaHead
areas_gained old new router areas = filter (λ area. new (record { 0 = area.id }) router) (areas_without_tree old router areas)
