-- For callers: what depends on the router-LSAs and network-LSAs of an area alone.
use Rattle.std.proofs.Common.{◌≡◌, ℕ, Bool, true, false, cond, List, [], ◌∷◌, filter, map, Option, Some, refl, sym, ap, ◌∙◌, subst, eqb}
use Rattle.std.specs.Prelude.{◌↔◌, ◌&&◌, ◌||◌}
use Rattle.std.specs.List.{Contains, filter_map, find}
use Rattle.std.specs.List.Sorted.{IsPermutation}
use Rattle.std.specs.Option.{option_map_or}
use Rattle.std.proofs.lemmas.Bool.{and_parts}
use Rattle.lsa_codec.specs.declared.address.RouterId.{RouterId}
use Rattle.lsa_codec.specs.Key.{router_key}
use Rattle.lsa_codec.specs.Fields.{kind_of, link_state_id_of, advertising_router_of}
use Rattle.lsdb.specs.Lists.{has_key}
use Rattle.area_graph.specs.Area.{highest, is_live, is_network_lsa, is_router_lsa, is_vertex_lsa, used, vertex_of}
use Rattle.area_graph.specs.AreaEdges.{area_edges}
use Rattle.area_graph.specs.Graphs.{IsGraphOf}
use Rattle.area_graph.specs.Rows.{each_once, is_out_of, numbered, row_of, rows_of, same_edge}
use Rattle.area_graph.specs.Topology.{Topology, IsEdge}
use Rattle.area_routes.specs.Attached.{has_live_router_lsa}
use Rattle.area_routes.specs.declared.stub_links.StubLink.{StubLink}
use Rattle.area_routes.specs.StubLinks.{AreStubLinksOf, stub_links_from}

-- a router-LSA or a network-LSA
abbrev pub is_graph_lsa : List ℕ → Bool
is_graph_lsa lsa = is_router_lsa lsa || is_network_lsa lsa

module _ {X : Type 0} (p q : X → Bool) (implies : (x : X) → p x ≡ true → q x ≡ true) where
  filter_twice : (xs : List X) → filter p (filter q xs) ≡ filter p xs
  filter_twice [] = refl
  filter_twice (x ∷ xs) = by (p x) (q x) refl refl (filter_twice xs)
    where
      by : (b d : Bool) → p x ≡ b → q x ≡ d → filter p (filter q xs) ≡ filter p xs
          → filter p (cond d (x ∷ filter q xs) (filter q xs)) ≡ cond b (x ∷ filter p xs) (filter p xs)
      by b true e f rest = ap (λ t. cond t (x ∷ filter p (filter q xs)) (filter p (filter q xs))) e ∙ ap (λ ys. cond b (x ∷ ys) ys) rest
      by true false e f rest = absurd (let no : true ≡ false = sym (implies x e) ∙ f in cc)
      by false false e f rest = rest

  find_filtered : (xs : List X) → find p (filter q xs) ≡ find p xs
  find_filtered [] = refl
  find_filtered (x ∷ xs) = by (p x) (q x) refl refl (find_filtered xs)
    where
      by : (b d : Bool) → p x ≡ b → q x ≡ d → find p (filter q xs) ≡ find p xs → find p (cond d (x ∷ filter q xs) (filter q xs)) ≡ cond b (Some x) (find p xs)
      by b true e f rest = ap (λ t. cond t (Some x) (find p (filter q xs))) e ∙ ap (cond b (Some x)) rest
      by true false e f rest = absurd (let no : true ≡ false = sym (implies x e) ∙ f in cc)
      by false false e f rest = rest

vertex_is_graph : (lsa : List ℕ) → is_vertex_lsa lsa ≡ true → is_graph_lsa lsa ≡ true
vertex_is_graph lsa h = (and_parts (is_live lsa) (is_graph_lsa lsa) h).1

keyed_is_graph : (router : RouterId) (lsa : List ℕ) → has_key (router_key router) lsa ≡ true → is_graph_lsa lsa ≡ true
keyed_is_graph router lsa h =
    ap (λ b. b || is_network_lsa lsa) (and_parts (eqb (kind_of lsa) 1) (eqb (link_state_id_of lsa) router.0 && eqb (advertising_router_of lsa) router.0) h).0

module _ (lsas others : List (List ℕ)) (same : filter is_graph_lsa lsas ≡ filter is_graph_lsa others) where
  pub same_used : used lsas ≡ used others
  unfolding used
  same_used =
      ap highest
      (sym (filter_twice is_vertex_lsa is_graph_lsa vertex_is_graph lsas) ∙ ap (filter is_vertex_lsa) same
      ∙ filter_twice is_vertex_lsa is_graph_lsa vertex_is_graph others)

  pub same_live : (router : RouterId) → has_live_router_lsa router lsas ≡ has_live_router_lsa router others
  same_live router =
      let keyed = has_key (router_key router) in
      ap (λ (o : Option (List ℕ)). option_map_or is_live o false)
      (sym (find_filtered keyed is_graph_lsa (keyed_is_graph router) lsas) ∙ ap (find keyed) same
      ∙ find_filtered keyed is_graph_lsa (keyed_is_graph router) others)

  pub same_stub_links : (links : List StubLink) → AreStubLinksOf lsas links → AreStubLinksOf others links
  same_stub_links links are = subst (λ us. IsPermutation (stub_links_from 0 us) links) same_used are

  same_rows : rows_of lsas ≡ rows_of others
  unfolding row_of
  same_rows =
      ap (λ ls. map (λ v. each_once same_edge (filter_map (numbered (map vertex_of ls)) (filter (is_out_of v) (area_edges ls)))) (map vertex_of ls)) same_used

  pub same_graph : (graph : Topology) → IsGraphOf lsas graph → IsGraphOf others graph
  same_graph graph is = record {
    vertices = is.vertices ∙ ap (λ ls. map vertex_of ls) same_used;
    rows = is.rows ∙ same_rows;
    edges = λ e. subst (λ ls. IsEdge graph e ↔ Contains (area_edges ls) e) same_used (is.edges e);
    once = is.once;
    shape = is.shape;
  }
