-- Vertices that are reached: the step of the loop that collects them, and the distances and hops of an area.
use Rattle.std.proofs.Common.{◌≡◌, ℕ, ◌+◌, ◌<◌, List, [], ◌∷◌, ◌++◌, map, take, drop, get_or, length, Option, None, Some, sym, ap, arith, ◌∙◌}
use Rattle.std.proofs.Math.Path.{fun_ext}
use Rattle.std.specs.List.{filter_map, cons_option}
use Rattle.std.specs.Option.{option_map}
use Rattle.std.proofs.lemmas.Option.{get_or_from_slice_get, slice_get_within}
use Rattle.std.proofs.lemmas.List.{drop_more, get_or-map, length-drop, length-map, take_more}
use Rattle.std.proofs.lemmas.Simd.{map-map}
use Rattle.lsa_codec.specs.declared.address.RouterId.{RouterId}
use Rattle.area_graph.specs.declared.vertex.Vertex.{Vertex}
use Rattle.area_graph.specs.declared.vertex.Vertex.TheVariants.{Router}
use Rattle.area_graph.specs.Area.{used, vertex_of}
use Rattle.area_graph.specs.AreaEdges.{area_edges}
use Rattle.area_graph.specs.AllPaths.{distance_of}
use Rattle.area_graph.specs.Topology.{Topology}
use Rattle.area_graph.proofs.GraphLemmas.{distance_of-area}
use Rattle.spf.specs.Distances.{Distances}
use Rattle.spf.proofs.TreeLemmas.{distances-are}
use Rattle.next_hops.specs.declared.hop.Hop.{Hop}
use Rattle.next_hops.specs.FirstHops.{hops_of}
use Rattle.next_hops.proofs.HopLemmas.{hops_of-edges}
use Rattle.std.specs.List.{slice_get}
use Rattle.area_routes.specs.Reached.{ReachedValue, reached_by, reached_from}
use Rattle.area_routes.specs.AreaResults.{AreOf}
use Rattle.area_routes.specs.steps.ReachedVertices.{FitGraph}
use Rattle.area_routes.proofs.AddsLemmas.{filter_map_adds}

-- one more item of a list, with what is found for it
pub found_more : {X Y : Type 0} (f : X → Option Y) (xs : List X) (i : ℕ) (x : X) → i < length xs → x ≡ get_or xs i x → (old new : List Y)
    → old ≡ filter_map f (take i xs) → new ≡ old ++ cons_option (f x) [] → new ≡ filter_map f (take (i + 1) xs)
found_more {X} {Y} f xs i x lt at old new before step =
    step ∙ ap (λ (ys : List Y). ys ++ cons_option (f x) []) before ∙ sym ((filter_map_adds f).push (take i xs) x)
    ∙ ap (λ (ys : List X). filter_map f ys) (ap (λ (y : X). take i xs ++ y ∷ []) at ∙ sym (take_more xs i x lt))

-- the distance of each vertex by its LSA
pub distances_by_lsa : (lsas : List (List ℕ)) (root : RouterId) (t : Topology) (tree : Distances) (hops : List (List Hop)) → AreOf lsas root t tree hops
    → tree.distances ≡ map (λ l. distance_of (area_edges (used lsas)) (Router root) (vertex_of l)) (used lsas)
distances_by_lsa lsas root t tree hops are =
    let d : Vertex → Option ℕ = λ v. distance_of (area_edges (used lsas)) (Router root) v in
    distances-are t (Router root) tree are.of_graph
    ∙ ap (λ (f : Vertex → Option ℕ). map f t.vertices) (fun_ext (λ v. distance_of-area lsas t are.of_area (Router root) v))
    ∙ ap (λ (vs : List Vertex). map d vs) are.of_area.vertices ∙ map-map d vertex_of (used lsas)

-- the hops of each vertex by its LSA
pub hops_by_lsa : (lsas : List (List ℕ)) (root : RouterId) (t : Topology) (tree : Distances) (hops : List (List Hop)) → AreOf lsas root t tree hops
    → hops ≡ map (λ l. hops_of (area_edges (used lsas)) (Router root) (vertex_of l)) (used lsas)
hops_by_lsa lsas root t tree hops are =
    let h : Vertex → List Hop = λ v. hops_of (area_edges (used lsas)) (Router root) v in
    are.of_tree
    ∙ ap (λ (f : Vertex → List Hop). map f t.vertices)
    (fun_ext (λ v. hops_of-edges t are.of_area.shape (area_edges (used lsas))
    (λ e i. (are.of_area.edges e).0 i) (λ e i. (are.of_area.edges e).1 i) (Router root) v))
    ∙ ap (λ (vs : List Vertex). map h vs) are.of_area.vertices ∙ map-map h vertex_of (used lsas)

-- the root of a tree is one vertex
pub one_root : (vs : List Vertex) (i j : ℕ) (a b : RouterId) → i ≡ j → slice_get vs i ≡ Some (Router a) → slice_get vs j ≡ Some (Router b) → a ≡ b
one_root vs i j a b e p q = cc

-- the vertices that are found by distance and hops are those that are reached
pub reached_from-area : (lsas : List (List ℕ)) (root : RouterId) (t : Topology) (tree : Distances) (hops : List (List Hop)) → AreOf lsas root t tree hops
    → (rs : List ReachedValue)
    → ((distance : Vertex → Option ℕ) (first : Vertex → List Hop) → tree.distances ≡ map (λ l. distance (vertex_of l)) (used lsas)
    → hops ≡ map (λ l. first (vertex_of l)) (used lsas) → rs ≡ filter_map (reached_by distance first) (used lsas))
    → rs ≡ reached_from root (used lsas)
reached_from-area lsas root t tree hops are rs found =
    found (λ v. distance_of (area_edges (used lsas)) (Router root) v) (λ v. hops_of (area_edges (used lsas)) (Router root) v)
    (distances_by_lsa lsas root t tree hops are) (hops_by_lsa lsas root t tree hops are)

-- graph, tree and hops of an area fit
pub fits : (lsas : List (List ℕ)) (root : RouterId) (t : Topology) (tree : Distances) (hops : List (List Hop)) → AreOf lsas root t tree hops
    → FitGraph lsas t tree hops
fits lsas root t tree hops are =
    let us = used lsas in
    let vertices : length t.vertices ≡ length us = ap (λ (vs : List Vertex). length vs) are.of_area.vertices ∙ length-map us vertex_of in
    record {
      vertices = are.of_area.vertices;
      shape = are.of_area.shape;
      a_distance_each = ap (λ (ds : List (Option ℕ)). length ds) (distances_by_lsa lsas root t tree hops are) ∙ length-map us _ ∙ sym vertices;
      hops_each = ap (λ (hs : List (List Hop)). length hs) (hops_by_lsa lsas root t tree hops are) ∙ length-map us _ ∙ sym vertices;
    }

-- an LSA whose vertex has no distance is not reached
pub not_reached : (distance : Vertex → Option ℕ) (first : Vertex → List Hop) (lsas : List (List ℕ)) (distances : List (Option ℕ))
    → distances ≡ map (λ l. distance (vertex_of l)) lsas → (i : ℕ) (lsa : List ℕ) → slice_get lsas i ≡ Some lsa → None ≡ get_or distances i None
    → None ≡ reached_by distance first lsa
not_reached distance first lsas distances is i lsa at none =
    let lt : i < length lsas = slice_get_within lsas i lsa at in
    let here : get_or distances i None ≡ distance (vertex_of lsa) =
    ap (λ (ds : List (Option ℕ)). get_or ds i None) is ∙ get_or-map (λ l. distance (vertex_of l)) lsas i lsa None lt
    ∙ ap (λ (l : List ℕ). distance (vertex_of l)) (get_or_from_slice_get lsas i lsa lsa at) in
    ap (λ (o : Option ℕ). option_map (λ d. record { lsa = lsa; distance = d; hops = first (vertex_of lsa) }) o) (none ∙ here)

-- the first of the items that are left is the one at their place, and the others are left after it
pub next_is : {X : Type 0} (xs : List X) (i : ℕ) (x : X) (rest : List X) → i < length xs → drop i xs ≡ x ∷ rest
    → (x ≡ get_or xs i x) × (rest ≡ drop (i + 1) xs)
next_is {X} xs i x rest lt left =
    let split : x ∷ rest ≡ get_or xs i x ∷ drop (i + 1) xs = sym left ∙ drop_more xs i x lt in
    (ap (λ (l : List X). get_or l 0 x) split, ap (λ (l : List X). drop 1 l) split)

-- before the end an item is left
pub none_left : {X : Type 0} (xs : List X) (i : ℕ) → i < length xs → drop i xs ≡ [] → ⊥
none_left {X} xs i lt none =
    let left = length-drop i xs in
    let empty : length (drop i xs) ≡ 0 = ap (λ (l : List X). length l) none in
    omega (arith, left, empty, lt)
