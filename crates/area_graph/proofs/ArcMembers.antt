-- The edges over the links of all vertices, by their numbers, are those over the links of the LSAs in use.
use Rattle.std.proofs.Common.{◌≡◌, ◌≢◌, ℕ, zero, suc, ◌+◌, ◌<◌, ◌≤◌, eqb, Bool, true, false, cond, ◌&&◌, List, [], ◌∷◌, ◌++◌, map, length, take}
use Rattle.std.proofs.Common.{Option, Some, refl, sym, ap, ◌∙◌, arith, true≢false}
use Rattle.std.specs.List.{slice_get, AllPairs, filter, filter_map, flat_map, list_any}
use Rattle.std.proofs.lemmas.Bool.{and_parts, and_from}
use Rattle.std.proofs.lemmas.List.{take_more, append-nil}
use Rattle.std.proofs.lemmas.List.Elements.{filter-append, filter_map-append}
use Rattle.std.proofs.lemmas.Option.{get_or_from_slice_get}
use Rattle.std.proofs.lemmas.Grind.{flat_map-append}
use Rattle.lsa_codec.specs.Fields.{link_state_id_of}
use Rattle.lsa_codec.specs.Links.{links_of}
use Rattle.lsa_codec.specs.Views.{attached_of}
use Rattle.area_graph.specs.declared.vertex.Vertex.{Vertex}
use Rattle.area_graph.specs.declared.vertex.Vertex.TheVariants.{Router, Network}
use Rattle.area_graph.specs.declared.edge.Edge.{Edge}
use Rattle.area_graph.specs.Vertex.{is_same, is_network}
use Rattle.area_graph.specs.Paths.{DirectedEdge}
use Rattle.area_graph.specs.Area.{is_router_lsa, is_network_lsa, vertex_of}
use Rattle.area_graph.specs.AreaEdges.{named_by, names, edge_over, edges_over}
use Rattle.area_graph.specs.steps.Naming.{linked, listed, naming, row_in, names_in}
use Rattle.area_graph.specs.steps.Drafts.{arc_of, is_network_at, both_arcs, returned_arcs, row_arcs, arcs_below, both_ways}
use Rattle.area_graph.specs.steps.Drafts.{returned, over_lsas}
use Rattle.area_graph.proofs.MemberLemmas.{In-list_any, list_any-In, Some-same}
use Rattle.area_graph.proofs.AllPathsLemmas.{same_from_is_same, is_same-from}
use Rattle.area_graph.proofs.VertexNumbers.{found, at_one_place}
use Rattle.area_graph.proofs.Arcs.{filter-filter_map, flat_map-filter_map, at_map, map_at, In-at, at-In, arc_between, between, network_at, no_ways, ways}
use Rattle.area_graph.proofs.Arcs.{any_naming, arcs_over}

-- ---- the LSAs in use

abbrev passes : Vertex → (List ℕ → Bool) → List ℕ → Bool
passes v q l = is_same (vertex_of l) v && q l

-- exactly one LSA is of a vertex
of_one : (lsas : List (List ℕ)) → AllPairs (λ v w. v ≢ w) (map vertex_of lsas) → (j : ℕ) (lsa : List ℕ) → slice_get lsas j ≡ Some lsa
    → (q : List ℕ → Bool) → list_any (λ l. is_same (vertex_of l) (vertex_of lsa) && q l) lsas ≡ q lsa
of_one lsas distinct j lsa at q = by (q lsa) refl
  where
    no_other : q lsa ≡ false → (b : Bool) → list_any (passes (vertex_of lsa) q) lsas ≡ b → b ≡ false
    no_other not false is = refl
    no_other not true is =
        let other = list_any-In (passes (vertex_of lsa) q) lsas is in
        let place = at-In lsas other.0 other.1 in
        let parts = and_parts (is_same (vertex_of other.0) (vertex_of lsa)) (q other.0) other.2 in
        let of : vertex_of other.0 ≡ vertex_of lsa = same_from_is_same (vertex_of other.0) (vertex_of lsa) parts.0 in
        let there : slice_get (map vertex_of lsas) place.0 ≡ Some (vertex_of lsa) =
        at_map vertex_of lsas place.0 other.0 place.1 ∙ ap (λ (v : Vertex). let o : Option Vertex = Some v in o) of in
        let one : place.0 ≡ j = at_one_place (map vertex_of lsas) distinct place.0 j (vertex_of lsa) there (at_map vertex_of lsas j lsa at) in
        let same : other.0 ≡ lsa = Some-same (sym place.1 ∙ ap (slice_get lsas) one ∙ at) in
        absurd (true≢false (sym parts.1 ∙ ap q same ∙ not))

    by : (b : Bool) → q lsa ≡ b → list_any (passes (vertex_of lsa) q) lsas ≡ b
    by true is = In-list_any (passes (vertex_of lsa) q) lsas lsa (In-at lsas j lsa at) (and_from _ _ (is_same-from (vertex_of lsa) (vertex_of lsa) refl) is)
    by false is = no_other is (list_any (passes (vertex_of lsa) q) lsas) refl

-- whether one vertex names another
abbrev pub links_back : List (List ℕ) → Vertex → Vertex → Bool
links_back lsas v w = list_any (names v w) lsas

module _ (lsas : List (List ℕ)) (distinct : AllPairs (λ v w. v ≢ w) (map vertex_of lsas)) where
  abbrev vs : List Vertex
  vs = map vertex_of lsas

  abbrev rows : List (List Edge)
  rows = map (naming vs) lsas

  abbrev arc : DirectedEdge Vertex → Option (DirectedEdge ℕ)
  arc = arc_between vs distinct

  row_is : (j : ℕ) (lsa : List ℕ) → slice_get lsas j ≡ Some lsa → row_in rows j ≡ naming vs lsa
  row_is j lsa at = get_or_from_slice_get rows j (naming vs lsa) [] (at_map (naming vs) lsas j lsa at)

  names_same : (i j : ℕ) (v w : Vertex) → slice_get vs i ≡ Some v → slice_get vs j ≡ Some w → names_in rows j i ≡ links_back lsas w v
  names_same i j v w at_v at_w =
      let l = map_at vertex_of lsas j w at_w in
      ap (list_any (λ (e : Edge). eqb e.to i)) (row_is j l.0 l.1)
      ∙ any_naming vs distinct i v at_v l.0
      ∙ sym (of_one lsas distinct j l.0 l.1 (λ k. list_any (λ named. is_same named v) (named_by k)))
      ∙ ap (λ (u : Vertex). list_any (names u v) lsas) l.2

  returned_same : (a : DirectedEdge ℕ) (f : DirectedEdge Vertex) → arc f ≡ Some a → names_in rows a.to a.from ≡ links_back lsas f.to f.from
  returned_same a f is =
      let ends = between vs distinct f a is in
      names_same a.from a.to f.from f.to (found vs f.from a.from ends.from).1 (found vs f.to a.to ends.to).1

  arcs_returned : (fs : List (DirectedEdge Vertex)) → returned_arcs vs rows (filter_map arc fs) ≡ filter_map arc (returned (links_back lsas) fs)
  arcs_returned fs =
      ap (flat_map (both_arcs vs))
      (filter-filter_map (λ a. names_in rows a.to a.from) (λ f. links_back lsas f.to f.from) arc (λ f a is. returned_same a f is) fs)
      ∙ flat_map-filter_map arc (both_arcs vs) both_ways (no_ways vs distinct) (ways vs distinct) (filter (λ f. links_back lsas f.to f.from) fs)

  abbrev over : ℕ → Bool → List (DirectedEdge ℕ)
  over k b = cond b [] (returned_arcs vs rows (map (arc_of k) (row_in rows k)))

  abbrev edges : List ℕ → Bool → List (DirectedEdge Vertex)
  edges lsa b = filter_map (edge_over (vertex_of lsa)) (cond b (links_of lsa) [])

  abbrev kind_by : List ℕ → Bool → Vertex
  kind_by lsa b = cond b (Router (record { 0 = link_state_id_of lsa })) (Network (record { 0 = link_state_id_of lsa }))

  row_arcs_are : (k : ℕ) (lsa : List ℕ) → slice_get lsas k ≡ Some lsa → row_arcs vs rows k ≡ filter_map arc (returned (links_back lsas) (edges_over lsa))
  row_arcs_are k lsa at = by (is_router_lsa lsa) refl
    where
      at_v : slice_get vs k ≡ Some (vertex_of lsa)
      at_v = at_map vertex_of lsas k lsa at

      kind : (b : Bool) → is_router_lsa lsa ≡ b → is_network_at vs k ≡ cond b false true
      kind true is = network_at vs distinct k (vertex_of lsa) at_v ∙ ap (λ (b : Bool). is_network (kind_by lsa b)) is
      kind false is = network_at vs distinct k (vertex_of lsa) at_v ∙ ap (λ (b : Bool). is_network (kind_by lsa b)) is

      by : (b : Bool) → is_router_lsa lsa ≡ b → row_arcs vs rows k ≡ filter_map arc (returned (links_back lsas) (edges_over lsa))
      by false is = ap (over k) (kind false is) ∙ sym (ap (λ (b : Bool). filter_map arc (returned (links_back lsas) (edges lsa b))) is)
      by true is =
          ap (over k) (kind true is)
          ∙ ap (λ (r : List Edge). returned_arcs vs rows (map (arc_of k) r))
          (row_is k lsa at ∙ ap (λ (b : Bool). cond b (filter_map (linked vs) (links_of lsa)) (cond (is_network_lsa lsa)
          (filter_map (listed vs) (attached_of lsa)) [])) is)
          ∙ ap (returned_arcs vs rows) (arcs_over vs distinct k (vertex_of lsa) at_v (links_of lsa))
          ∙ arcs_returned (edges lsa true) ∙ sym (ap (λ (b : Bool). filter_map arc (returned (links_back lsas) (edges lsa b))) is)

  over_lsas-push : (front : List (List ℕ)) (lsa : List ℕ)
      → over_lsas (links_back lsas) (front ++ lsa ∷ []) ≡ over_lsas (links_back lsas) front ++ returned (links_back lsas) (edges_over lsa)
  over_lsas-push front lsa =
      let linked_back : DirectedEdge Vertex → Bool = λ e. links_back lsas e.to e.from in
      ap (returned (links_back lsas)) (flat_map-append edges_over front (lsa ∷ [])
      ∙ ap (λ (es : List (DirectedEdge Vertex)). flat_map edges_over front ++ es) (append-nil (edges_over lsa)))
      ∙ ap (flat_map both_ways) (filter-append linked_back (flat_map edges_over front) (edges_over lsa))
      ∙ flat_map-append both_ways (filter linked_back (flat_map edges_over front)) (filter linked_back (edges_over lsa))

  -- the edges over the links of all vertices are those over the links of all LSAs
  pub arcs_are : (n : ℕ) → n ≤ length lsas → arcs_below vs rows n ≡ filter_map arc (over_lsas (links_back lsas) (take n lsas))
  arcs_are zero le = refl
  arcs_are (suc n) le =
      let lt : n < length lsas = omega arith in
      let at = there lsas n lt in
      let next : suc n ≡ n + 1 = omega arith in
      let front : take (suc n) lsas ≡ take n lsas ++ at.0 ∷ [] =
      ap (λ (k : ℕ). take k lsas) next ∙ take_more lsas n at.0 lt
      ∙ ap (λ (l : List ℕ). take n lsas ++ l ∷ []) (get_or_from_slice_get lsas n at.0 at.0 at.1) in
      (λ i. arcs_are n (omega arith) i ++ row_arcs_are n at.0 at.1 i)
      ∙ sym (filter_map-append arc (over_lsas (links_back lsas) (take n lsas)) (returned (links_back lsas) (edges_over at.0)))
      ∙ ap (filter_map arc) (sym (over_lsas-push (take n lsas) at.0))
      ∙ ap (λ (ls : List (List ℕ)). filter_map arc (over_lsas (links_back lsas) ls)) (sym front)
    where
      there : (ls : List (List ℕ)) (n : ℕ) → n < length ls → (l : List ℕ) × (slice_get ls n ≡ Some l)
      there [] n lt = absurd (omega arith)
      there (l ∷ ls) zero lt = (l, refl)
      there (l ∷ ls) (suc n) lt = there ls n (omega arith)
