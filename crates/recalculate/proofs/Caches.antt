-- The database that a session began at: no step changes it, and it is that of the session with all edits taken back. What is kept
-- of it and of the session's database.
use Rattle.std.proofs.Common.{◌≡◌, ℕ, ◌-◌, Bool, true, false, List, [], ◌∷◌, ◌++◌, take, length, Result, Ok, Err, Option, Some, None, IfSome}
use Rattle.std.proofs.Common.{◌∙◌, sym, ap, arith, subst}
use Rattle.std.specs.Prelude.{cond, nat_lt}
use Rattle.lsa_codec.specs.declared.address.RouterId.{RouterId}
use Rattle.lsdb.specs.declared.section.Section.TheVariants.{AsWide}
use Rattle.lsdb.specs.Lists.{AreaHead, Lists, lsas_of}
use Rattle.area_routes.specs.Attached.{attached_areas}
use Rattle.edit_script.specs.declared.edit.Edit.{Edit}
use Rattle.edit_history.specs.declared.fault.EditFault.{EditFault}
use Rattle.edit_history.specs.declared.fault.EditFault.TheVariants.{HistoryFull}
use Rattle.edit_history.specs.Effect.{effect}
use Rattle.edit_history.specs.Session.{Session, accepted, after_edits, edited, most_edits, moved_back, state}
use Rattle.external_routes.specs.declared.external_lsas.ExternalLsa.{ExternalLsa}
use Rattle.external_routes.specs.ExternalLsas.{AreListedOf}
use Rattle.routing_table.specs.AreasTrees.{KeptTreesValue, AreOfDatabase, routers_of}
use Rattle.routing_table.specs.KeptTrees.{IsWithin, KeptRouters, areas_without_tree, is_kept}
use Rattle.routing_table.specs.Tables.{TableValue, results_in, routes_from, table_by, table_in}
use Rattle.routing_table.proofs.KeptLemmas.{none_lacks}
use Rattle.recalculate.specs.Asking.{HasTrees}
use Rattle.recalculate.specs.Planning.{AreCachesOf, CacheValue, IsCacheOf, IsTableOver}

-- an edit that was accepted leaves it
pub edited_base : (s t : Session) (e : Edit) → edited s e ≡ Ok t → t.base ≡ s.base
unfolding edited
edited_base s t e h = by (nat_lt (length s.done) most_edits) (effect (state s) e) h
  where
    by : (b : Bool) (r : Result Lists EditFault) → cond b (accepted s e r) (Err HistoryFull) ≡ Ok t → t.base ≡ s.base
    by true (Ok db) k = let is : record { base = s.base; done = s.done ++ e ∷ []; undone = [] } ≡ t = cc in sym (ap (λ (x : Session). x.base) is)
    by true (Err fault) k = absurd cc
    by false r k = absurd cc

-- with all edits taken back the session's database is its base
pub all_back : (s : Session) → state (moved_back (length s.done) s) ≡ s.base
all_back s =
    let none : length s.done - length s.done ≡ 0 = omega arith in
    ap (λ (n : ℕ). after_edits s.base (take n s.done)) none

-- so it is where one was done, and is taken back
pub one_back : (s : Session) → length s.done ≡ 1 → state (moved_back 1 s) ≡ s.base
one_back s one = ap (λ (n : ℕ). state (moved_back n s)) (sym one) ∙ all_back s

-- ---- tables of it

named_by : (db : Lists) (router : RouterId) (areas : List AreaHead) (table : TableValue) → table_by db router areas ≡ Some table → table.router ≡ router
named_by db router [] table h = absurd cc
named_by db router (area ∷ areas) table h =
    let is : record { router = router; routes = routes_from db router (results_in db router (area ∷ areas)) } ≡ table = cc in
    sym (ap (λ (t : TableValue). t.router) is)

pub named : (db : Lists) (router : RouterId) (table : TableValue) → table_in db router ≡ Some table → table.router ≡ router
unfolding table_in
named db router table h = named_by db router (attached_areas db router) table h

-- a table that was made over trees that are kept may be kept itself
pub may_be_kept : (db : Lists) (router : RouterId) (kept : KeptRouters) (table : TableValue) → table_in db router ≡ Some table
    → areas_without_tree (is_kept kept) router (attached_areas db router) ≡ [] → IsTableOver db kept table.router table
may_be_kept db router kept table shows trees =
    subst (λ (r : RouterId). IsTableOver db kept r table) (sym (named db router table shows)) (record { shows = shows; trees = trees })

-- the table that is kept, where it is that of a router
pub kept_of : (db : Lists) (kept : KeptRouters) (router : RouterId) (table : TableValue) → table.router ≡ router
    → IsTableOver db kept table.router table → IsTableOver db kept router table
kept_of db kept router table same over = subst (λ (r : RouterId). IsTableOver db kept r table) same over

-- a table stays one over the trees, where more of them come
over_more : (db : Lists) (old new : KeptRouters) → IsWithin (is_kept old) (is_kept new) → (o : Option TableValue)
    → IfSome o (λ table. IsTableOver db old table.router table) → IfSome o (λ table. IsTableOver db new table.router table)
over_more db old new within None over = tt
over_more db old new within (Some table) over = record {
  shows = over.shows;
  trees = none_lacks (is_kept old) (is_kept new) table.router within (attached_areas db table.router) over.trees;
}

-- ---- what is kept of a database

module _ (db : Lists) where
  -- nothing
  pub none_kept : (trees : KeptTreesValue) → trees ≡ record { areas = []; spare = None }
      → IsCacheOf db (record { trees = trees; externals = None; table = None })
  none_kept trees none = record {
    trees = subst (λ (k : KeptTreesValue). AreOfDatabase db k) (sym none) (record { areas = λ area. tt; spare = tt });
    externals = tt;
    table = tt;
  }

  -- no table
  pub without_table : (trees : KeptTreesValue) (listed : Option (List ExternalLsa)) (table : Option TableValue)
      → IsCacheOf db (record { trees = trees; externals = listed; table = table })
      → IsCacheOf db (record { trees = trees; externals = listed; table = None })
  without_table trees listed table is = record { trees = is.trees; externals = is.externals; table = tt }

  -- the table of a router whose trees are kept
  pub with_table : (router : RouterId) (table : TableValue) (cache : CacheValue) → table_in db router ≡ Some table
      → HasTrees db router (routers_of cache.trees) → IsCacheOf db cache
      → IsCacheOf db (record { trees = cache.trees; externals = cache.externals; table = Some table })
  with_table router table cache shows trees is = record {
    trees = is.trees;
    externals = is.externals;
    table = may_be_kept db router (routers_of cache.trees) table shows trees;
  }

  -- more trees
  pub with_more : (trees after : KeptTreesValue) (listed now_listed : Option (List ExternalLsa)) (table : Option TableValue)
      → AreOfDatabase db after → IsWithin (is_kept (routers_of trees)) (is_kept (routers_of after))
      → AreListedOf (lsas_of AsWide db) now_listed → IsCacheOf db (record { trees = trees; externals = listed; table = table })
      → IsCacheOf db (record { trees = after; externals = now_listed; table = table })
  with_more trees after listed now_listed table graphs within are is = record {
    trees = graphs;
    externals = are;
    table = over_more db (routers_of trees) (routers_of after) within table is.table;
  }

  -- the table of a router that is kept
  pub over_by : {T : Type 0} (value_of : T → TableValue) (router : RouterId) (cache : CacheValue) (kept : Option T)
      → IfSome kept (λ table. (db : Lists) → IsCacheOf db cache → IsTableOver db (routers_of cache.trees) router (value_of table))
      → IsCacheOf db cache → IfSome kept (λ table. IsTableOver db (routers_of cache.trees) router (value_of table))
  over_by value_of router cache None over is = tt
  over_by value_of router cache (Some table) over is = over db is

-- ---- what a planner keeps

-- of the session's database something else
pub with_present : (s : Session) (db : Lists) (before after baseline : CacheValue) → db ≡ state s → IsCacheOf db after
    → AreCachesOf s before baseline → AreCachesOf s after baseline
with_present s db before after baseline same is all =
    record { present = subst (λ (l : Lists). IsCacheOf l after) same is; baseline = all.baseline }

-- of the database that the session began at
pub with_baseline : (s t : Session) (present before after : CacheValue) → t ≡ s → IsCacheOf s.base after → AreCachesOf s present before
    → AreCachesOf t present after
with_baseline s t present before after same is all =
    subst (λ (u : Session). AreCachesOf u present after) (sym same) (record { present = all.present; baseline = is })
