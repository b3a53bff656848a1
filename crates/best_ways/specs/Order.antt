-- The orders of path types and ranks.
use Rattle.std.specs.Prelude.{ℕ, List}
use Rattle.std.specs.List.Sorted.{IsStrictlySortedBy}
use Rattle.std.specs.Ordering.{nat_cmp, ordering_then}
use Rattle.std.specs.declared.cmp.Ordering.{Ordering}
use Rattle.lsa_codec.specs.declared.address.AreaId.{AreaId}
use Rattle.lsa_codec.specs.Order.{area_cmp}
use Rattle.best_ways.specs.declared.rank.PathType.{PathType}
use Rattle.best_ways.specs.declared.rank.PathType.TheVariants.{Intra, Inter, Ext1, Ext2}
use Rattle.best_ways.specs.declared.rank.Rank.{Rank}

-- intra-area before inter-area before external of type 1 before external of type 2 (RFC 2328, 11)
abbrev pub path_number : PathType → ℕ
path_number Intra = 0
path_number Inter = 1
path_number Ext1 = 2
path_number Ext2 = 3

abbrev pub path_cmp : PathType → PathType → Ordering
path_cmp a b = nat_cmp (path_number a) (path_number b)

-- by path type, then by type 2 metric, then by class, then by cost (RFC 2328, 16.4)
abbrev pub rank_cmp : Rank → Rank → Ordering
rank_cmp a b =
    ordering_then (path_cmp a.path b.path)
    (ordering_then (nat_cmp a.cost2 b.cost2) (ordering_then (nat_cmp a.class b.class) (nat_cmp a.cost b.cost)))

-- in rising order, each once
abbrev pub AreSortedAreas : List AreaId → Type 0
AreSortedAreas areas = IsStrictlySortedBy area_cmp areas
