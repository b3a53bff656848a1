-- What asking for a table of one router leaves of the trees that are kept, and of their count.
use Rattle.std.proofs.Common.{◌≡◌, ◌≢◌, ℕ, ◌+◌, ◌≤◌, Bool, true, false, not, filter, List, [], ◌∷◌, length, cond, Some, None, Result, Ok, Err, inl}
use Rattle.std.proofs.Common.{refl, sym, ap, ◌∙◌, subst, arith}
use Rattle.std.specs.Prelude.{OnOk}
use Rattle.lsa_codec.specs.declared.address.AreaId.{AreaId}
use Rattle.lsa_codec.specs.declared.address.RouterId.{RouterId}
use Rattle.lsdb.specs.Lists.{AreaHead, Lists}
use Rattle.area_routes.specs.Attached.{attached_areas, is_attached}
use Rattle.edit_history.specs.Session.{Session, state}
use Rattle.routing_table.specs.AreasTrees.{KeptTreesValue, routers_of, trees_in}
use Rattle.routing_table.specs.Counting.{CountsAtMost, counted_by}
use Rattle.routing_table.specs.KeptTrees.{GainsOnly, KeptRouters, TreeSet, areas_gained, areas_without_tree, is_kept}
use Rattle.routing_table.proofs.KeptLemmas.{none_gained}
use Rattle.routing_table.proofs.TableLemmas.{counted_twice}
use Rattle.recalculate.specs.Asking.{GainsTrees, HasTrees, HasTreesOfTable, IsAskedAgain, gained, lacking}
use Rattle.recalculate.specs.CallsForTables.{CalculatesTrees, KeepsBaseline}
use Rattle.recalculate.specs.Planning.{PlannerValue}
use Rattle.routing_table.specs.declared.table.TableFault.{TableFault}
use Rattle.recalculate.proofs.TreesSpared.{reported}

-- what is shown of the trees
pub reported_gains : (passes : AreaId → Bool) (router : RouterId) (old new : KeptTreesValue) → GainsOnly passes router (trees_in old) (trees_in new)
    → GainsOnly passes router (is_kept (routers_of old)) (is_kept (routers_of new))
reported_gains passes router old new only =
    subst (λ (t : TreeSet). GainsOnly passes router t (is_kept (routers_of new))) (sym (reported old))
    (subst (λ (t : TreeSet). GainsOnly passes router (trees_in old) t) (sym (reported new)) only)

-- ---- how many came

id_of : AreaHead → AreaId
id_of area = record { 0 = area.id }

-- where all are there, those that were lacking came
all_came : (old new : TreeSet) (router : RouterId) (areas : List AreaHead) → areas_without_tree new router areas ≡ []
    → areas_gained old new router areas ≡ areas_without_tree old router areas
all_came old new router [] none = refl
all_came old new router (area ∷ areas) none =
    by (old (record { 0 = area.id }) router) (new (record { 0 = area.id }) router) refl (all_came old new router areas) none
  where
    passed : AreaHead → Bool
    passed a = new (record { 0 = a.id }) router

    by : (was is : Bool) → new (record { 0 = area.id }) router ≡ is
        → (areas_without_tree new router areas ≡ [] → areas_gained old new router areas ≡ areas_without_tree old router areas)
        → cond (not is) (area ∷ areas_without_tree new router areas) (areas_without_tree new router areas) ≡ []
        → filter passed (cond (not was) (area ∷ areas_without_tree old router areas) (areas_without_tree old router areas))
        ≡ cond (not was) (area ∷ areas_without_tree old router areas) (areas_without_tree old router areas)
    by true true e rest h = rest h
    by false true e rest h =
        ap (λ b. cond b (area ∷ areas_gained old new router areas) (areas_gained old new router areas)) e
        ∙ ap (λ (l : List AreaHead). area ∷ l) (rest h)
    by was false e rest h = absurd cc

-- where nothing came, none came
none_came : (trees : TreeSet) (router : RouterId) (areas : List AreaHead) → areas_gained trees trees router areas ≡ []
none_came trees router [] = refl
none_came trees router (area ∷ areas) = by (trees (record { 0 = area.id }) router) refl (none_came trees router areas)
  where
    passed : AreaHead → Bool
    passed a = trees (record { 0 = a.id }) router

    by : (b : Bool) → trees (record { 0 = area.id }) router ≡ b → areas_gained trees trees router areas ≡ []
        → filter passed (cond (not b) (area ∷ areas_without_tree trees router areas) (areas_without_tree trees router areas)) ≡ []
    by true e rest = rest
    by false e rest =
        ap (λ b. cond b (area ∷ areas_gained trees trees router areas) (areas_gained trees trees router areas)) e ∙ rest

pub none_at_most : (most n : ℕ) → CountsAtMost most n n
none_at_most most n = record { trees = 0; few = omega arith; counts = refl }

module _ (db : Lists) (router : RouterId) where
  pub gains_none : (kept : KeptRouters) → GainsTrees db router kept kept
  gains_none kept = record { keeps = λ area root h. h; no_more = none_gained (λ area. is_attached db area router) router (is_kept kept) }

  pub gains_same : (old new : KeptRouters) → new ≡ old → GainsTrees db router old new
  gains_same old new same = subst (λ (k : KeptRouters). GainsTrees db router old k) (sym same) (gains_none old)

  pub gained_none : (kept : KeptRouters) → gained db router kept kept ≡ 0
  gained_none kept = ap length (none_came (is_kept kept) router (attached_areas db router))

  pub gained_same : (old new : KeptRouters) → new ≡ old → gained db router old new ≡ 0
  gained_same old new same = ap (gained db router old) same ∙ gained_none old

  pub gained_all : (old new : KeptRouters) → HasTrees db router new → gained db router old new ≡ lacking db router old
  gained_all old new all = ap length (all_came (is_kept old) (is_kept new) router (attached_areas db router) all)

-- ---- a table of the beginning, where it is asked for again

module _ (base : Lists) (router : RouterId) (p q : PlannerValue) where
  pub base_counted : {X : Type 0} (r : Result X TableFault) → CalculatesTrees base router r (p.first_kept, p.runs) (q.first_kept, q.runs)
      → KeepsBaseline router r p q → q.tables.first ≡ Some router → q.runs ≡ counted_by (gained base router p.first_kept q.first_kept) p.runs
  base_counted (Ok v) made keeps first =
      made.counts ∙ ap (λ n. counted_by n p.runs) (sym (gained_all base router p.first_kept q.first_kept made.all))
  base_counted (Err e) made keeps first =
      let there : q.tables.first ≢ None = λ none. absurd cc in
      let same = keeps there in
      ap (λ (v : PlannerValue). v.runs) same
      ∙ ap (λ n. counted_by n p.runs) (sym (gained_same base router p.first_kept q.first_kept (ap (λ (v : PlannerValue). v.first_kept) same)))

-- ---- a cached table: what went before it, and the table

module _ (router : RouterId) (p q r : PlannerValue) (session : q.session ≡ p.session) (kept : q.kept ≡ p.kept) where
  lacks : lacking (state q.session) router q.kept ≡ lacking (state p.session) router p.kept
  lacks = ap (λ (s : Session). lacking (state s) router q.kept) session ∙ ap (lacking (state p.session) router) kept

  pub shared_gains : GainsTrees (state q.session) router q.kept r.kept → GainsTrees (state p.session) router p.kept r.kept
  shared_gains gains =
      subst (λ (s : Session). GainsTrees (state s) router p.kept r.kept) session
      (subst (λ (k : KeptRouters). GainsTrees (state q.session) router k r.kept) kept gains)

  pub shared_runs : {X E : Type 0} (o : Result X E) → OnOk o (r.runs ≡ counted_by (lacking (state q.session) router q.kept) q.runs)
      → OnOk o (HasTrees (state q.session) router r.kept)
      → ((IsAskedAgain router p → q.tables.first ≡ Some router) → q.runs ≡ counted_by (gained p.session.base router p.first_kept q.first_kept) p.runs)
      → r.first_kept ≡ q.first_kept → r.tables.first ≡ q.tables.first
      → OnOk o ((IsAskedAgain router p → r.tables.first ≡ Some router)
      → r.runs ≡ counted_by (gained (state p.session) router p.kept r.kept) (counted_by (gained p.session.base router p.first_kept r.first_kept) p.runs))
  shared_runs (Ok v) runs trees before first_kept first = λ again.
      runs ∙ ap (λ n. counted_by n q.runs)
      (lacks ∙ sym (gained_all (state p.session) router p.kept r.kept (subst (λ (s : Session). HasTrees (state s) router r.kept) session trees)))
      ∙ ap (counted_by (gained (state p.session) router p.kept r.kept))
      (before (λ asked. sym first ∙ again asked) ∙ ap (λ (k : KeptRouters). counted_by (gained p.session.base router p.first_kept k) p.runs) (sym first_kept))
  shared_runs (Err e) runs trees before first_kept first = tt

  pub shared_at_most : (more : ℕ) → CountsAtMost more p.runs q.runs → CountsAtMost (lacking (state q.session) router q.kept) q.runs r.runs
      → CountsAtMost (lacking (state p.session) router p.kept + more) p.runs r.runs
  shared_at_most more one two = record {
    trees = two.trees + one.trees;
    few = omega (arith, one.few, two.few, lacks);
    counts = two.counts ∙ ap (counted_by two.trees) one.counts ∙ counted_twice two.trees one.trees p.runs;
  }

  pub shared_few : q.runs ≡ p.runs → CountsAtMost (lacking (state q.session) router q.kept) q.runs r.runs
      → CountsAtMost (lacking (state p.session) router p.kept) p.runs r.runs
  shared_few runs two = record {
    trees = two.trees;
    few = omega (arith, two.few, lacks);
    counts = two.counts ∙ ap (counted_by two.trees) runs;
  }

  -- the table of the beginning is answered
  pub unchanged_runs : ((IsAskedAgain router p → q.tables.first ≡ Some router) → q.runs ≡ counted_by (gained p.session.base router p.first_kept q.first_kept) p.runs)
      → (IsAskedAgain router p → q.tables.first ≡ Some router)
      → q.runs ≡ counted_by (gained (state p.session) router p.kept q.kept) (counted_by (gained p.session.base router p.first_kept q.first_kept) p.runs)
  unchanged_runs before again =
      before again
      ∙ ap (λ n. counted_by n (counted_by (gained p.session.base router p.first_kept q.first_kept) p.runs))
      (sym (gained_same (state p.session) router p.kept q.kept kept))

-- more trees may be counted than were
pub more_at_most : (most more old new : ℕ) → most ≤ more → CountsAtMost most old new → CountsAtMost more old new
more_at_most most more old new le counts = record { trees = counts.trees; few = omega (arith, counts.few, le); counts = counts.counts }

-- the count stays
pub same_at_most : (most old new : ℕ) → new ≡ old → CountsAtMost most old new
same_at_most most old new same = record { trees = 0; few = omega arith; counts = same }

-- the trees are those of the table
pub shared_trees : {X E : Type 0} (o : Result X E) (s : Session) (router : RouterId) (p : PlannerValue) → p.session ≡ s
    → OnOk o (HasTrees (state s) router p.kept) → OnOk o (HasTreesOfTable router p)
shared_trees (Ok v) s router p same trees = inl (subst (λ (t : Session). HasTrees (state t) router p.kept) (sym same) trees)
shared_trees (Err e) s router p same trees = tt
