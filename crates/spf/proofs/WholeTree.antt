-- The whole tree is a function of the graph and the root.
use Rattle.std.proofs.Common.{◌≡◌, ℕ, zero, suc, ◌+◌, Bool, true, false, cond, not, List, [], ◌∷◌, Option, Some, refl, sym, ap, ◌∙◌, subst, arith}
use Rattle.std.specs.List.{slice_get, position_or_len}
use Rattle.area_graph.specs.declared.vertex.Vertex.{Vertex}
use Rattle.area_graph.specs.Vertex.{is_same}
use Rattle.area_graph.proofs.MemberLemmas.{Some-same}
use Rattle.area_graph.proofs.AllPathsLemmas.{same_from_is_same, is_same-from}
use Rattle.area_graph.specs.Topology.{Topology, IsTopology}
use Rattle.area_graph.proofs.TopologyLemmas.{one_number}
use Rattle.spf.specs.Distances.{Distances, IsTreeOf, distances_of, order_of, number_of, tree_of}
use Rattle.spf.proofs.Trees.{distances-are}
use Rattle.spf.proofs.Orders.{order-is}

one_more : (n : ℕ) → suc n ≡ 1 + n
one_more n = omega arith

module _ (root : Vertex) where
  at_place : (v : Vertex) (vs : List Vertex) (n : ℕ) → slice_get vs n ≡ Some root → slice_get (v ∷ vs) (1 + n) ≡ Some root
  at_place v vs n h = subst (λ (k : ℕ). slice_get (v ∷ vs) k ≡ Some root) (one_more n) h

  first_place : (vs : List Vertex) (r : ℕ) → slice_get vs r ≡ Some root → slice_get vs (position_or_len (λ v. is_same v root) vs) ≡ Some root
  first_place [] r h = h
  first_place (v ∷ vs) zero h =
      subst (λ (b : Bool). slice_get (v ∷ vs) (cond (not b) (1 + position_or_len (λ v. is_same v root) vs) 0) ≡ Some root)
      (sym (is_same-from v root (Some-same h))) h
  first_place (v ∷ vs) (suc r) h = by_test (is_same v root) refl (first_place vs r h)
    where
      by_test : (b : Bool) → is_same v root ≡ b → slice_get vs (position_or_len (λ v. is_same v root) vs) ≡ Some root
          → slice_get (v ∷ vs) (cond (not b) (1 + position_or_len (λ v. is_same v root) vs) 0) ≡ Some root
      by_test true is rest = ap (λ (x : Vertex). Some x) (same_from_is_same v root is)
      by_test false is rest = at_place v vs (position_or_len (λ v. is_same v root) vs) rest

pub tree-is : (t : Topology) → IsTopology t → (root : Vertex) (tree : Distances) → IsTreeOf t root tree → tree ≡ tree_of t root
tree-is t shape root tree of =
    let number : tree.root ≡ number_of t root = one_number t shape tree.root
    (number_of t root) root of.root_at (first_place root t.vertices tree.root of.root_at) in
    let distances = distances-are t root tree of in
    let order : tree.order ≡ order_of t (distances_of t root) = order-is t root tree of ∙ ap (λ (ds : List (Option ℕ)). order_of t ds) distances in
    ap (λ (r : ℕ). let x : Distances = record { root = r; distances = tree.distances; order = tree.order } in x) number
    ∙ ap (λ (ds : List (Option ℕ)). let x : Distances = record { root = number_of t root; distances = ds; order = tree.order } in x) distances
    ∙ ap (λ (o : List ℕ). let x : Distances = record { root = number_of t root; distances = distances_of t root; order = o } in x) order
