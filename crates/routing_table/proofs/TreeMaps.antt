-- The trees of an area, after one was put among them.
use Rattle.std.proofs.Common.{◌≡◌, true, false, List, Some, Result, Ok, Err, IfOk, refl, sym, ap, ◌∙◌}
use Rattle.std.specs.Prelude.{is_some}
use Rattle.std.specs.Cmp.{unsigned_ties}
use Rattle.std.specs.Map.{lookup}
use Rattle.std.specs.Ordering.{eq_by_cmp}
use Rattle.std.proofs.lemmas.Bool.{eq-eqb}
use Rattle.lsa_codec.specs.declared.address.RouterId.{RouterId}
use Rattle.lsa_codec.specs.Order.{router_cmp}
use Rattle.lsa_codec.proofs.OrderLemmas.{router_exact}
use Rattle.area_graph.specs.Topology.{Topology}
use Rattle.routing_table.specs.AreaTrees.{AreTreesIn, IsTreeIn, RouterTreeValue}
use Rattle.routing_table.proofs.MapLemmas.{Puts, if_found, put_all, put_gains, put_here, put_passes}

router_self : (router : RouterId) → eq_by_cmp router_cmp router router ≡ true
router_self router = sym (unsigned_ties router.0 router.0) ∙ eq-eqb router.0 router.0 refl

abbrev Trees : Type 0
Trees = List (RouterId × RouterTreeValue)

module _ (old new : Trees) (router : RouterId) (t : RouterTreeValue) (puts : Puts router_cmp old new router t) where
  pub trees_stay : (graph : Topology) → IsTreeIn graph router t → AreTreesIn graph old → AreTreesIn graph new
  trees_stay graph is all = put_all router_cmp router_exact old new router t puts (IsTreeIn graph) is all

  pub tree_here : is_some (lookup (eq_by_cmp router_cmp router) new) ≡ true
  tree_here = ap is_some (put_here router_cmp router_exact old new router t puts (router_self router))

  pub tree_keeps : (other : RouterId) → is_some (lookup (eq_by_cmp router_cmp other) old) ≡ true → is_some (lookup (eq_by_cmp router_cmp other) new) ≡ true
  tree_keeps other had = put_passes router_cmp router_exact old new router t puts is_some (λ _. refl) other had

  pub only_here : (other : RouterId) → is_some (lookup (eq_by_cmp router_cmp other) new) ≡ true
      → is_some (lookup (eq_by_cmp router_cmp other) old) ≡ false → other ≡ router
  only_here other has lacked = (put_gains router_cmp router_exact old new router t puts is_some other has lacked).0

-- ---- what a look-up found

pub tree_found : (graph : Topology) (trees : Trees) (router : RouterId) (t : RouterTreeValue) → AreTreesIn graph trees
    → lookup (eq_by_cmp router_cmp router) trees ≡ Some t → IsTreeIn graph router t
tree_found graph trees router t all is = if_found (IsTreeIn graph router) (lookup (eq_by_cmp router_cmp router) trees) t is (all router)

-- what is answered for the root of a tree
pub if_given : {X E R : Type 0} (result : R → X) (Of : R → Type 0) (r : Result X E)
    → IfOk r (λ v. (root : R) → Of root → v ≡ result root) → (root : R) → Of root → IfOk r (λ v. v ≡ result root)
if_given result Of (Ok v) h root of = h root of
if_given result Of (Err e) h root of = tt
