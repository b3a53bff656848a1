-- What is settled is the tree of the root.
use Rattle.std.proofs.Common.{◌≡◌, ℕ, ◌<◌, ◌≤◌, ◌^◌, List, Option, Some, None, length, get_or, sym, ap, ◌∙◌, subst, arith}
use Rattle.std.specs.List.{slice_get, All}
use Rattle.std.specs.Option.{unwrap_or, option_map}
use Rattle.std.specs.Prelude.{IfSome}
use Rattle.std.proofs.lemmas.List.{get_or_default}
use Rattle.std.proofs.lemmas.List.Elements.{Contains-get_or}
use Rattle.std.proofs.lemmas.Option.{slice_get-map, unwrap_or-slice_get}
use Rattle.area_graph.specs.declared.vertex.Vertex.{Vertex}
use Rattle.area_graph.specs.Paths.{IsDistance}
use Rattle.area_graph.specs.AllPaths.{distance_of}
use Rattle.area_graph.specs.Topology.{Topology, IsTopology, IsEdge, edges_of}
use Rattle.area_graph.proofs.MemberLemmas.{map-by_place}
use Rattle.area_graph.proofs.EdgeLemmas.{distance-is, IsDistance-edges}
use Rattle.area_graph.proofs.TopologyLemmas.{IsDistance-up}
use Rattle.spf.specs.steps.Relaxation.{Bounded, Sound, Closed}
use Rattle.spf.specs.steps.Search.{IsSettled}
use Rattle.spf.specs.Distances.{Distances, AreInRange, IsTreeOf, distances_of}
use Rattle.spf.proofs.Closing.{IsDistance-closed}
use Rattle.spf.proofs.Reached.{Bounded-small, some_of, within_some}

module _ (t : Topology) (shape : IsTopology t) (r : ℕ) (ds : List (Option ℕ)) (sized : length ds ≡ length t.vertices) where
  distance-below : Bounded ds → (i d : ℕ) → get_or ds i None ≡ Some d → d < 2 ^ 32
  distance-below bounded i d at =
      let few : length t.vertices ≤ 8192 = shape.few in
      let small : d < 2 ^ 30 = Bounded-small ds i d (omega arith) bounded at in
      omega arith

  distances-below : Bounded ds → All (λ (o : Option ℕ). IfSome o (λ d. d < 2 ^ 32)) ds
  distances-below bounded k d lt = at_some (get_or ds k d) (get_or_default ds k None d lt)
    where
      at_some : (o : Option ℕ) → get_or ds k None ≡ o → IfSome o (λ d. d < 2 ^ 32)
      at_some None is = tt
      at_some (Some x) is = distance-below bounded k x is

  distance-from_closed : (root v : Vertex) (i : ℕ) → Sound t r ds → Closed t ds → slice_get t.vertices r ≡ Some root
      → slice_get t.vertices i ≡ Some v → IsDistance (IsEdge t) root v (get_or ds i None)
  distance-from_closed root v i sound closed at_root at =
      IsDistance-up t shape r i root v at_root at (get_or ds i None) (IsDistance-closed t r ds sound closed i)

  -- distances that no edge lowers are a function of the graph and the root
  pub distances-from_closed : (root : Vertex) → Sound t r ds → Closed t ds → slice_get t.vertices r ≡ Some root → ds ≡ distances_of t root
  distances-from_closed root sound closed at_root =
      map-by_place (λ v. distance_of (edges_of t) root v) t.vertices ds None sized
      (λ i v at. distance-is t root v (get_or ds i None) (distance-from_closed root v i sound closed at_root at))

module _ (t : Topology) (shape : IsTopology t) (r : ℕ) (ds : List (Option ℕ)) (order : List ℕ) (s : IsSettled t r ds order) where
  pub IsTreeOf-settled : (root : Vertex) → slice_get t.vertices r ≡ Some root → IsTreeOf t root (record { root = r; distances = ds; order = order })
  IsTreeOf-settled root at_root = record {
    root_at = at_root;
    sized = s.sized;
    distance = λ i v at. distance-from_closed t shape r ds s.sized root v i s.sound s.closed at_root at;
    below = distance-below t shape r ds s.sized s.bounded;
    settled = s.settled;
    listed = s.listed;
    rising = s.rising;
  }

  pub AreInRange-settled : AreInRange (record { root = r; distances = ds; order = order })
  AreInRange-settled = record {
    below = distances-below t shape r ds s.sized s.bounded;
    within = λ k d lt.
        (let x = some_of (get_or ds (get_or order k d) None) (s.settled (get_or order k d) (Contains-get_or order k d lt)) in within_some ds (get_or order k d) x.0 x.1);
  }

-- the distances of a tree are a function of the graph and the root
pub distances-are : (t : Topology) (root : Vertex) (tree : Distances) → IsTreeOf t root tree → tree.distances ≡ distances_of t root
distances-are t root tree of =
    map-by_place (λ v. distance_of (edges_of t) root v) t.vertices tree.distances None of.sized
    (λ i v at. distance-is t root v (get_or tree.distances i None) (of.distance i v at))

-- and the other way: these are the distances over all paths
pub IsDistance-from_equation : (t : Topology) (root : Vertex) (ds : List (Option ℕ)) → ds ≡ distances_of t root
    → (i : ℕ) (v : Vertex) → slice_get t.vertices i ≡ Some v → IsDistance (IsEdge t) root v (get_or ds i None)
IsDistance-from_equation t root ds is i v at =
    subst (λ (o : Option ℕ). IsDistance (IsEdge t) root v o) (sym value) (IsDistance-edges t root v)
  where
    value : get_or ds i None ≡ distance_of (edges_of t) root v
    value = ap (λ (xs : List (Option ℕ)). get_or xs i None) is
        ∙ sym (unwrap_or-slice_get (distances_of t root) i None)
        ∙ ap (λ (o : Option (Option ℕ)). unwrap_or o None)
        (slice_get-map (λ v. distance_of (edges_of t) root v) t.vertices i
        ∙ ap (λ (o : Option Vertex). option_map (λ v. distance_of (edges_of t) root v) o) at)
