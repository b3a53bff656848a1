-- What a planner keeps and counts where it is asked for a router's table.
use Rattle.std.specs.Prelude.{◌≡◌, ◌⊎◌, ℕ, false, [], Some, length}
use Rattle.lsa_codec.specs.declared.address.AreaId.{AreaId}
use Rattle.lsa_codec.specs.declared.address.RouterId.{RouterId}
use Rattle.lsdb.specs.Lists.{Lists}
use Rattle.area_routes.specs.Attached.{attached_areas, is_attached}
use Rattle.edit_history.specs.Session.{state}
use Rattle.routing_table.specs.KeptTrees.{GainsOnly, IsWithin, KeptRouters, areas_gained, areas_without_tree, is_kept}
use Rattle.routing_table.specs.Tables.{table_in}
use Rattle.recalculate.specs.Planning.{PlannerValue}

-- ---- the trees of one router in a database

module _ (db : Lists) (router : RouterId) where
  -- the number of areas in which its tree is not kept
  abbrev pub lacking : KeptRouters → ℕ
  lacking kept = length (areas_without_tree (is_kept kept) router (attached_areas db router))

  -- the number of areas in which its tree is kept now, and was not before
  abbrev pub gained : KeptRouters → KeptRouters → ℕ
  gained old new = length (areas_gained (is_kept old) (is_kept new) router (attached_areas db router))

  -- it is kept in each area
  abbrev pub HasTrees : KeptRouters → Type 0
  HasTrees kept = areas_without_tree (is_kept kept) router (attached_areas db router) ≡ []

  -- no tree went, and none came but the router's in areas to which it is attached
  pub record GainsTrees (old new : KeptRouters) : Type 0 where
    pub keeps : IsWithin (is_kept old) (is_kept new)
    pub no_more : GainsOnly (λ area. is_attached db area router) router (is_kept old) (is_kept new)

-- ---- a table that may be answered again

-- one edit is done, and the router's table was asked for last: then its trees of the database that the session began at may come
abbrev pub IsAskedAgain : RouterId → PlannerValue → Type 0
IsAskedAgain router p = (length p.session.done ≡ 1) × (p.tables.asked ≡ Some router)

-- the router's trees are kept; or else its table is that of the database that the session began at, of which they are kept
abbrev pub HasTreesOfTable : RouterId → PlannerValue → Type 0
HasTreesOfTable router p =
    HasTrees (state p.session) router p.kept
    ⊎ ((table_in (state p.session) router ≡ table_in p.session.base router) × HasTrees p.session.base router p.first_kept)

-- ---- trees of other routers

-- no tree of a router came
abbrev pub NoTreeCame : RouterId → PlannerValue → PlannerValue → Type 0
NoTreeCame router old new = (area : AreaId) → is_kept old.kept area router ≡ false → is_kept new.kept area router ≡ false

-- none of its trees is kept
abbrev pub HasNoTree : RouterId → PlannerValue → Type 0
HasNoTree router p = (area : AreaId) → is_kept p.kept area router ≡ false
