-- The vertices that are reached, over all paths of the area.
use Rattle.std.proofs.Common.{◌≡◌, ℕ, ◌+◌, ◌<◌, List, Option, None, Some, refl, ap, subst, arith}
use Rattle.std.specs.Prelude.{◌↔◌}
use Rattle.std.specs.List.{Contains, All, filter_map}
use Rattle.std.specs.Option.{option_map}
use Rattle.lsa_codec.specs.declared.address.Addr.{Addr}
use Rattle.lsa_codec.specs.declared.address.RouterId.{RouterId}
use Rattle.lsa_codec.specs.Accepted.{IsAccepted}
use Rattle.area_graph.specs.declared.vertex.Vertex.{Vertex}
use Rattle.area_graph.specs.declared.vertex.Vertex.TheVariants.{Router, Network}
use Rattle.area_graph.specs.Area.{vertex_of}
use Rattle.area_graph.specs.AreaEdges.{area_edges}
use Rattle.area_graph.specs.AllPaths.{distance_of}
use Rattle.area_graph.specs.Joins.{Joins}
use Rattle.area_graph.specs.Paths.{DirectedEdge, IsPath, IsDistance}
use Rattle.area_graph.proofs.MemberLemmas.{In, In-from_Contains, Contains-from_In, In-filter_map, filter_map-In, Some-same}
use Rattle.area_graph.proofs.GraphLemmas.{has_link_costs}
use Rattle.area_graph.proofs.JoinLemmas.{Contains-area_edges}
use Rattle.area_graph.proofs.AllPathsLemmas.{IsDistance-distance_of}
use Rattle.next_hops.specs.declared.hop.Hop.{Hop}
use Rattle.next_hops.specs.FirstHops.{NothingFree, IsHopTo, hops_of}
use Rattle.next_hops.proofs.HopLemmas.{Contains-hops_of}
use Rattle.area_routes.specs.Reached.{ReachedValue, reached_by, reached_from}
use Rattle.area_routes.specs.OverAllPaths.{IsAreaEdge, AreOverAllPaths}

-- ---- costs

module _ (lsas : List (List ℕ)) (accepted : All IsAccepted lsas) where
  -- of two edges, one after the other, one leads out of a router
  out_of_router : (u v w : Vertex) (a b : ℕ) (d c : Addr) → Joins lsas u v a d → Joins lsas v w b c → 0 < a + b
  out_of_router (Router u) (Router v) w a b d c first next = let some = has_link_costs lsas accepted u (Router v) a d first.0 in omega arith
  out_of_router (Router u) (Network n) w a b d c first next = let some = has_link_costs lsas accepted u (Network n) a d first.0 in omega arith
  out_of_router (Network n) (Router v) (Router w) a b d c first next = let some = has_link_costs lsas accepted v (Router w) b c next.0 in omega arith
  out_of_router (Network n) (Router v) (Network m) a b d c first next = let some = has_link_costs lsas accepted v (Network m) b c next.0 in omega arith
  out_of_router (Network n) (Network m) w a b d c first next = absurd first

  pub NothingFree-area : NothingFree (area_edges lsas)
  NothingFree-area e f there next joined =
      out_of_router e.from e.to f.to e.cost f.cost e.link_data f.link_data
      ((Contains-area_edges lsas e).0 there)
      (subst (λ (v : Vertex). Joins lsas v f.to f.cost f.link_data) joined ((Contains-area_edges lsas f).0 next))

-- ---- members

module _ (distance : Vertex → Option ℕ) (hops : Vertex → List Hop) where
  -- the properties of the reached vertex of an LSA
  abbrev IsOf : List ℕ → ReachedValue → Type 0
  IsOf lsa r = (lsa ≡ r.lsa) × (distance (vertex_of r.lsa) ≡ Some r.distance) × (hops (vertex_of r.lsa) ≡ r.hops)

  reached_is : (lsa : List ℕ) (r : ReachedValue) → reached_by distance hops lsa ≡ Some r → IsOf lsa r
  reached_is lsa r is = by_distance (distance (vertex_of lsa)) refl is
    where
      by_distance : (o : Option ℕ) → distance (vertex_of lsa) ≡ o
          → option_map (λ d. let s : ReachedValue = record { lsa = lsa; distance = d; hops = hops (vertex_of lsa) } in s) o ≡ Some r → IsOf lsa r
      by_distance None at same = absurd (cc)
      by_distance (Some d) at same =
          subst (λ (s : ReachedValue). IsOf lsa s) (Some-same same) (refl, at, refl)

  -- a member is that of an LSA
  pub reached-In : (lsas : List (List ℕ)) (r : ReachedValue) → In (filter_map (reached_by distance hops) lsas) r
      → In lsas r.lsa × (distance (vertex_of r.lsa) ≡ Some r.distance) × (hops (vertex_of r.lsa) ≡ r.hops)
  reached-In lsas r i =
      let found = filter_map-In (reached_by distance hops) lsas r i in
      let is = reached_is found.0 r found.2 in
      (subst (λ (lsa : List ℕ). In lsas lsa) is.0 found.1, is.1, is.2)

  -- an LSA whose vertex has a distance has a member
  pub In-reached : (lsas : List (List ℕ)) (lsa : List ℕ) (d : ℕ) → In lsas lsa → distance (vertex_of lsa) ≡ Some d
      → (r : ReachedValue) × In (filter_map (reached_by distance hops) lsas) r × (r.lsa ≡ lsa)
  In-reached lsas lsa d there at =
      let make : ℕ → ReachedValue = λ d. record { lsa = lsa; distance = d; hops = hops (vertex_of lsa) } in
      (make d, In-filter_map (reached_by distance hops) lsas lsa (make d) there (ap (λ (o : Option ℕ). option_map make o) at), refl)

-- ---- the law

-- a vertex to which a path leads has a distance
has_distance : (IsEdge : DirectedEdge Vertex → Type 0) (v w : Vertex) (es : List (DirectedEdge Vertex))
    → IsPath IsEdge v es w → (o : Option ℕ) → IsDistance IsEdge v w o → (d : ℕ) × (o ≡ Some d)
has_distance IsEdge v w es path None none = absurd (none es path)
has_distance IsEdge v w es path (Some d) least = (d, refl)

pub reached_over_all_paths : (root : RouterId) (lsas : List (List ℕ)) → All IsAccepted lsas → AreOverAllPaths root lsas (reached_from root lsas)
reached_over_all_paths root lsas accepted = record {
  vertices = λ r c. Contains-from_In lsas r.lsa (parts r c).0;
  all = reached;
  distances = λ r c. subst (λ (o : Option ℕ). IsDistance (IsAreaEdge lsas) (Router root) (vertex_of r.lsa) o)
      (parts r c).1 (IsDistance-distance_of edges (Router root) (vertex_of r.lsa));
  hops = λ r hop c. subst (λ (hs : List Hop). Contains hs hop ↔ IsHopTo (IsAreaEdge lsas) (Router root) (vertex_of r.lsa) hop) (parts r c).2
      (Contains-hops_of edges (NothingFree-area lsas accepted) (Router root) (vertex_of r.lsa) hop);
}
  where
    edges : List (DirectedEdge Vertex)
    edges = area_edges lsas

    distance : Vertex → Option ℕ
    distance v = distance_of edges (Router root) v

    hops : Vertex → List Hop
    hops v = hops_of edges (Router root) v

    parts : (r : ReachedValue) → Contains (reached_from root lsas) r
        → In lsas r.lsa × (distance (vertex_of r.lsa) ≡ Some r.distance) × (hops (vertex_of r.lsa) ≡ r.hops)
    parts r c = reached-In distance hops lsas r (In-from_Contains (reached_from root lsas) r c)

    reached : (lsa : List ℕ) (es : List (DirectedEdge Vertex)) → Contains lsas lsa → IsPath (IsAreaEdge lsas) (Router root) es (vertex_of lsa)
        → (r : ReachedValue) × Contains (reached_from root lsas) r × (r.lsa ≡ lsa)
    reached lsa es there path =
        let at = has_distance (IsAreaEdge lsas) (Router root) (vertex_of lsa) es path (distance (vertex_of lsa))
        (IsDistance-distance_of edges (Router root) (vertex_of lsa)) in
        let found = In-reached distance hops lsas lsa at.0 (In-from_Contains lsas lsa there) at.1 in
        (found.0, Contains-from_In (reached_from root lsas) found.0 found.1, found.2)
