-- What calls that ask for tables calculate, by their results.
use Rattle.std.proofs.Common.{◌≡◌, ℕ, [], length, List, Option, Result, Ok, Err, ap, ◌∙◌, sym, subst, arith}
use Rattle.std.specs.Prelude.{OnOk}
use Rattle.lsa_codec.specs.declared.address.RouterId.{RouterId}
use Rattle.lsdb.specs.Lists.{AreaHead, Lists}
use Rattle.area_routes.specs.Attached.{attached_areas, is_attached}
use Rattle.routing_table.specs.AreasTrees.{KeptTreesValue, routers_of, trees_in}
use Rattle.routing_table.specs.Counting.{CountsAtMost, counted_by}
use Rattle.routing_table.specs.KeptTrees.{GainsOnly, IsWithin, KeptRouters, TreeSet, areas_without_tree, is_kept}
use Rattle.routing_table.specs.Tables.{TableValue}
use Rattle.routing_table.specs.declared.table.TableFault.{TableFault}
use Rattle.routing_table.specs.declared.table.TableFault.TheVariants.{NoRouter, OutOfMemory}
use Rattle.recalculate.specs.Asking.{GainsTrees, HasTrees, lacking}
use Rattle.recalculate.specs.CallsForTables.{CalculatesAll, CalculatesSome, CalculatesTrees, CountsTrees, KeepsBaseline, KeepsTable}
use Rattle.recalculate.specs.Planning.{PlannerValue, router_of}
use Rattle.routing_table.proofs.TableLemmas.{on_ok}
use Rattle.recalculate.proofs.Asked.{gains_none, none_at_most, reported_gains}
use Rattle.recalculate.proofs.TreesSpared.{reported}

-- what is shown of the trees
pub within_kept : (old new : KeptTreesValue) → IsWithin (trees_in old) (trees_in new) → IsWithin (is_kept (routers_of old)) (is_kept (routers_of new))
within_kept old new within =
    subst (λ (t : TreeSet). IsWithin t (is_kept (routers_of new))) (sym (reported old))
    (subst (λ (t : TreeSet). IsWithin (trees_in old) t) (sym (reported new)) within)

pub trees_counted : {T : Type 0} (trees : ℕ) (r : Result T TableFault) (early late : ℕ) → OnOk r (late ≡ counted_by trees early)
    → (r ≡ Err NoRouter → late ≡ early) → CountsAtMost trees early late → CountsTrees trees r early late
trees_counted trees (Ok t) early late all none few = all
trees_counted trees (Err fault) early late all none few = record { no_router = λ e. none cc; at_most = few }

module _ (db : Lists) (router : RouterId) where
  pub trees_calculated : {T : Type 0} (r : Result T TableFault) (early late : KeptRouters × ℕ)
      → OnOk r (late.1 ≡ counted_by (lacking db router early.0) early.1) → OnOk r (HasTrees db router late.0)
      → (r ≡ Err NoRouter → late.1 ≡ early.1) → CountsAtMost (lacking db router early.0) early.1 late.1
      → GainsTrees db router early.0 late.0 → CalculatesTrees db router r early late
  trees_calculated (Ok t) early late counts all none few gains = record { counts = counts; all = all; gains = gains }
  trees_calculated (Err fault) early late counts all none few gains =
      record { counts = record { no_router = λ e. none cc; at_most = few }; gains = gains }

  -- ---- what a call says of its trees, whatever its result

  pub at_most_by : {T : Type 0} (r : Result T TableFault) (early late : KeptRouters × ℕ) → CalculatesTrees db router r early late
      → CountsAtMost (lacking db router early.0) early.1 late.1
  at_most_by (Ok t) early late made = record { trees = lacking db router early.0; few = omega arith; counts = made.counts }
  at_most_by (Err fault) early late made = made.counts.at_most

  pub gains_by : {T : Type 0} (r : Result T TableFault) (early late : KeptRouters × ℕ) → CalculatesTrees db router r early late
      → GainsTrees db router early.0 late.0
  gains_by (Ok t) early late made = made.gains
  gains_by (Err fault) early late made = made.gains

  pub counted_on : {T : Type 0} (r : Result T TableFault) (early late : KeptRouters × ℕ) → CalculatesTrees db router r early late
      → OnOk r (late.1 ≡ counted_by (lacking db router early.0) early.1)
  counted_on (Ok t) early late made = made.counts
  counted_on (Err fault) early late made = tt

  pub all_on : {T : Type 0} (r : Result T TableFault) (early late : KeptRouters × ℕ) → CalculatesTrees db router r early late
      → OnOk r (HasTrees db router late.0)
  all_on (Ok t) early late made = made.all
  all_on (Err fault) early late made = tt

  -- some were made, and then memory ran out
  pub some_made : (early late : KeptRouters × ℕ) → CountsAtMost (lacking db router early.0) early.1 late.1
      → GainsTrees db router early.0 late.0 → CalculatesSome db router OutOfMemory early late
  some_made early late few gains = record { counts = record { no_router = λ e. absurd cc; at_most = few }; gains = gains }

  -- or all of them
  pub until_memory : (early late : KeptRouters × ℕ) → CalculatesAll db router early late → CalculatesSome db router OutOfMemory early late
  until_memory early late made =
      some_made early late (record { trees = lacking db router early.0; few = omega arith; counts = made.counts }) made.gains

  -- all are there
  pub none_calculated : (kept : KeptRouters) (runs : ℕ) → HasTrees db router kept → CalculatesAll db router (kept, runs) (kept, runs)
  none_calculated kept runs there = record {
    counts = ap (λ (l : List AreaHead). counted_by (length l) runs) (sym there);
    all = there;
    gains = gains_none db router kept;
  }

  pub none_until_memory : (kept : KeptRouters) (runs : ℕ) → CalculatesSome db router OutOfMemory (kept, runs) (kept, runs)
  none_until_memory kept runs = some_made (kept, runs) (kept, runs) (none_at_most (lacking db router kept) runs) (gains_none db router kept)

  -- ---- by the trees in memory

  module _ (old new : KeptTreesValue) (was is : ℕ) where
    abbrev lacking_in : TreeSet → ℕ
    lacking_in trees = length (areas_without_tree trees router (attached_areas db router))

    gains_in : IsWithin (trees_in old) (trees_in new) → GainsOnly (λ area. is_attached db area router) router (trees_in old) (trees_in new)
        → GainsTrees db router (routers_of old) (routers_of new)
    gains_in within only = record {
      keeps = within_kept old new within;
      no_more = reported_gains (λ area. is_attached db area router) router old new only;
    }

    pub some_in : CountsAtMost (length (areas_without_tree (trees_in old) router (attached_areas db router))) was is
        → IsWithin (trees_in old) (trees_in new) → GainsOnly (λ area. is_attached db area router) router (trees_in old) (trees_in new)
        → CalculatesSome db router OutOfMemory (routers_of old, was) (routers_of new, is)
    some_in few within only =
        some_made (routers_of old, was) (routers_of new, is)
        (subst (λ (t : TreeSet). CountsAtMost (lacking_in t) was is) (sym (reported old)) few) (gains_in within only)

    pub all_in : {T : Type 0} (r : Result T TableFault)
        → is ≡ counted_by (length (areas_without_tree (trees_in old) router (attached_areas db router))) was
        → areas_without_tree (trees_in new) router (attached_areas db router) ≡ []
        → IsWithin (trees_in old) (trees_in new) → GainsOnly (λ area. is_attached db area router) router (trees_in old) (trees_in new)
        → (r ≡ Err NoRouter → attached_areas db router ≡ []) → CalculatesTrees db router r (routers_of old, was) (routers_of new, is)
    all_in r counts grown within only none =
        let counted : is ≡ counted_by (lacking db router (routers_of old)) was =
        subst (λ (t : TreeSet). is ≡ counted_by (lacking_in t) was) (sym (reported old)) counts in
        let there : HasTrees db router (routers_of new) =
        subst (λ (t : TreeSet). areas_without_tree t router (attached_areas db router) ≡ []) (sym (reported new)) grown in
        trees_calculated r (routers_of old, was) (routers_of new, is) (on_ok r counted) (on_ok r there)
        (λ e. counted ∙ ap (λ (areas : List AreaHead). counted_by (length (areas_without_tree (is_kept (routers_of old)) router areas)) was) (none e))
        (record { trees = lacking db router (routers_of old); few = omega arith; counts = counted }) (gains_in within only)

-- ---- the table that is kept of the database that a session began at

pub keeps_first : {T : Type 0} (router : RouterId) (r : Result T TableFault) (table : Option TableValue) (p q : PlannerValue)
    → q.tables.first ≡ router_of table → KeepsTable router r table → KeepsBaseline router r p q
keeps_first router (Ok t) table p q same kept = same ∙ kept
keeps_first router (Err fault) table p q same kept = λ there. absurd (there (same ∙ ap router_of kept))
