-- `hops_of` has the first hops of all paths of least cost.
use Rattle.std.proofs.Common.{◌≡◌, ℕ, ◌<◌, List, [], sym, subst}
use Rattle.std.specs.Prelude.{◌↔◌}
use Rattle.std.specs.List.{Contains, All, filter_map}
use Rattle.std.proofs.lemmas.Option.{slice_get_within}
use Rattle.area_graph.specs.declared.vertex.Vertex.{Vertex}
use Rattle.area_graph.specs.Paths.{DirectedEdge}
use Rattle.area_graph.specs.AllPaths.{least_paths_of}
use Rattle.area_graph.proofs.PathLemmas.{IsPath-weaker}
use Rattle.area_graph.proofs.MemberLemmas.{In, In-from_Contains, Contains-from_In, In-filter_map, filter_map-In, map-by_place}
use Rattle.area_graph.proofs.RisingLemmas.{Contains-rising, rising-is, rising-pairs}
use Rattle.area_graph.proofs.AllPathsLemmas.{least_paths_of-In, In-least_paths_of}
use Rattle.area_graph.specs.Topology.{Topology, IsTopology, IsEdge, edges_of}
use Rattle.area_graph.proofs.EdgeLemmas.{edges_of-has, edges_of-only, NothingFree-edges}
use Rattle.next_hops.specs.declared.hop.Hop.{Hop}
use Rattle.next_hops.specs.Hop.{IsSortedHops}
use Rattle.next_hops.specs.FirstHops.{first_hop, IsHopTo, NothingFree, hops_of, hops_at, table_of, AreHopsOf}
use Rattle.next_hops.proofs.HopOrder.{hop_cmp_total, same_hop}

module _ (edges : List (DirectedEdge Vertex)) (costly : NothingFree edges) (v w : Vertex) where
  hop_in : (h : Hop) → In (filter_map (λ es. first_hop es) (least_paths_of edges v w)) h → IsHopTo (λ e. Contains edges e) v w h
  hop_in h i =
      let r = filter_map-In (λ es. first_hop es) (least_paths_of edges v w) h i in
      let least = least_paths_of-In edges v w r.0 r.1 in
      (r.0, least.0, least.1, r.2)

  in_hops : (h : Hop) → IsHopTo (λ e. Contains edges e) v w h → In (filter_map (λ es. first_hop es) (least_paths_of edges v w)) h
  in_hops h (es, path, low, first) = In-filter_map (λ es. first_hop es) (least_paths_of edges v w) es h (In-least_paths_of edges costly v w es path low) first

  -- the hops over all paths, of any length
  pub Contains-hops_of : (h : Hop) → Contains (hops_of edges v w) h ↔ IsHopTo (λ e. Contains edges e) v w h
  unfolding hops_of
  Contains-hops_of h =
      let listed = filter_map (λ es. first_hop es) (least_paths_of edges v w) in
      let same = Contains-rising hop_cmp_total same_hop listed h in (
        λ there. hop_in h (In-from_Contains listed h (same.0 there)),
        λ hop. same.1 (Contains-from_In listed h (in_hops h hop)),
      )

  -- the one sorted list of these hops
  pub hops_of-is : (hops : List Hop) → IsSortedHops hops → ((h : Hop) → Contains hops h ↔ IsHopTo (λ e. Contains edges e) v w h) → hops ≡ hops_of edges v w
  unfolding hops_of
  hops_of-is hops sorted same =
      let listed = filter_map (λ es. first_hop es) (least_paths_of edges v w) in
      rising-is hop_cmp_total same_hop hops listed sorted (λ h. (
        λ there. Contains-from_In listed h (in_hops h ((same h).0 there)),
        λ there. (same h).1 (hop_in h (In-from_Contains listed h there)),
      ))

-- the same hops over the same edges
IsHopTo-same_edges : (P Q : DirectedEdge Vertex → Type 0) → ((e : DirectedEdge Vertex) → P e → Q e)
    → ((e : DirectedEdge Vertex) → Q e → P e) → (v w : Vertex) (h : Hop) → IsHopTo P v w h → IsHopTo Q v w h
IsHopTo-same_edges P Q there back v w h (es, path, low, first) =
    (es, IsPath-weaker P Q there v w es path, λ fs q. low fs (IsPath-weaker Q P back v w fs q), first)

pub IsSortedHops-hops_of : (edges : List (DirectedEdge Vertex)) (v w : Vertex) → IsSortedHops (hops_of edges v w)
unfolding hops_of
IsSortedHops-hops_of edges v w = rising-pairs hop_cmp_total same_hop (filter_map (λ es. first_hop es) (least_paths_of edges v w))

-- two lists with the same members give the same hops
pub hops_of-same_members : (edges others : List (DirectedEdge Vertex)) → NothingFree edges
    → ((e : DirectedEdge Vertex) → Contains edges e → Contains others e) → ((e : DirectedEdge Vertex) → Contains others e → Contains edges e)
    → (v w : Vertex) → hops_of edges v w ≡ hops_of others v w
hops_of-same_members edges others costly there back v w =
    hops_of-is others (λ e f i j joined. costly e f (back e i) (back f j) joined) v w (hops_of edges v w) (IsSortedHops-hops_of edges v w)
    (λ h. (
      λ i. IsHopTo-same_edges (λ e. Contains edges e) (λ e. Contains others e) there back v w h ((Contains-hops_of edges costly v w h).0 i),
      λ hop. (Contains-hops_of edges costly v w h).1 (IsHopTo-same_edges (λ e. Contains others e) (λ e. Contains edges e) back there v w h hop),
    ))

-- where the graph has the edges of another list, such as those of an area's LSAs
pub hops_of-edges : (t : Topology) → IsTopology t → (edges : List (DirectedEdge Vertex))
    → ((e : DirectedEdge Vertex) → IsEdge t e → Contains edges e) → ((e : DirectedEdge Vertex) → Contains edges e → IsEdge t e)
    → (v w : Vertex) → hops_of (edges_of t) v w ≡ hops_of edges v w
hops_of-edges t shape edges there back v w =
    hops_of-same_members (edges_of t) edges (NothingFree-edges t shape) (λ e i. there e (edges_of-only t e i)) (λ e i. edges_of-has t e (back e i)) v w

-- sorted hops of all vertices are a function of the graph and the root
pub table-is : (t : Topology) → IsTopology t → (root : Vertex) (table : List (List Hop))
    → All (λ hops. IsSortedHops hops) table → AreHopsOf t root table → table ≡ table_of t root
table-is t shape root table sorted of =
    map-by_place (λ w. hops_of (edges_of t) root w) t.vertices table [] of.sized
    (λ i w at. hops_of-is (edges_of t) (NothingFree-edges t shape) root w (hops_at table i)
    (sorted i [] (subst (λ (n : ℕ). i < n) (sym of.sized) (slice_get_within t.vertices i w at)))
    (λ h. (
      λ there. IsHopTo-same_edges (IsEdge t) (λ e. Contains (edges_of t) e) (edges_of-has t) (edges_of-only t) root w h ((of.members i w at h).0 there),
      λ hop. (of.members i w at h).1 (IsHopTo-same_edges (λ e. Contains (edges_of t) e) (IsEdge t) (edges_of-only t) (edges_of-has t) root w h hop),
    )))
