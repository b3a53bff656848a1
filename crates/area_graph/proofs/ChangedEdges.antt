-- The edges of an area after a change of the cost of one interface: the same, except for the costs of those over the
-- interface.
use Rattle.std.proofs.Common.{◌≡◌, ℕ, Bool, true, false, cond, not, eqb, ltb, List, [], ◌∷◌, ◌++◌, map, Option, None, Some, refl, sym, ap, ◌∙◌, inl, inr}
use Rattle.std.proofs.Common.{true≢false}
use Rattle.std.specs.Prelude.{◌&&◌, ◌||◌}
use Rattle.std.specs.List.{AllZip, cons_option, filter, filter_map, flat_map, list_any}
use Rattle.std.specs.Option.{option_map, option_map_or}
use Rattle.std.proofs.lemmas.Bool.{eq-eqb}
use Rattle.std.proofs.lemmas.List.{map-append}
use Rattle.lsa_codec.specs.declared.link.Link.{Link}
use Rattle.lsa_codec.specs.Fields.{kind_of, link_state_id_of, advertising_router_of}
use Rattle.lsa_codec.specs.Key.{is_at_max_age}
use Rattle.lsa_codec.specs.Links.{links_of}
use Rattle.lsa_codec.specs.Views.{attached_of}
use Rattle.area_graph.specs.declared.cost_change.CostChange.{CostChange}
use Rattle.area_graph.specs.declared.vertex.Vertex.{Vertex}
use Rattle.area_graph.specs.declared.vertex.Vertex.TheVariants.{Router, Network}
use Rattle.area_graph.specs.Vertex.{is_same, is_network}
use Rattle.area_graph.specs.Paths.{DirectedEdge}
use Rattle.area_graph.specs.Area.{is_network_lsa, is_outranked_by, is_router_lsa, is_vertex_lsa, used, vertex_lsas, vertex_of, vertices_of}
use Rattle.area_graph.specs.AreaEdges.{area_edges, back, edge_over, edges_over, is_returned, named_by, names, router_edges, router_links, target_by, target_of}
use Rattle.area_graph.specs.CostChanges.{AreChanged, IsChanged, IsChangedLink, is_over}
use Rattle.area_graph.proofs.AllPathsLemmas.{is_same-from}
use Rattle.area_graph.proofs.AreaLemmas.{vertex_of_router}
use Rattle.area_graph.proofs.ZipLemmas.{same-filter_map, zip-any, zip-filter}

-- ---- lists

pub filter-of_map : {X Y : Type 0} (f : X → Y) (p : Y → Bool) (q : X → Bool) → ((x : X) → p (f x) ≡ q x) → (xs : List X)
    → filter p (map f xs) ≡ map f (filter q xs)
filter-of_map f p q alike [] = refl
filter-of_map {X} {Y} f p q alike (x ∷ xs) =
    ap (λ (b : Bool). cond b (f x ∷ filter p (map f xs)) (filter p (map f xs))) (alike x)
    ∙ ap (λ (ys : List Y). cond (q x) (f x ∷ ys) ys) (filter-of_map f p q alike xs) ∙ by (q x)
  where
    by : (b : Bool) → cond b (f x ∷ map f (filter q xs)) (map f (filter q xs)) ≡ map f (cond b (x ∷ filter q xs) (filter q xs))
    by true = refl
    by false = refl

filter_map-zip : {X Y A : Type 0} (R : X → Y → Type 0) (f : X → Option A) (g : Y → Option A) (h : A → A)
    → ((x : X) (y : Y) → R x y → g y ≡ option_map h (f x)) → (xs : List X) (ys : List Y) → AllZip R xs ys → filter_map g ys ≡ map h (filter_map f xs)
filter_map-zip R f g h each [] [] zip = refl
filter_map-zip R f g h each [] (y ∷ ys) zip = absurd zip
filter_map-zip R f g h each (x ∷ xs) [] zip = absurd zip
filter_map-zip {X} {Y} {A} R f g h each (x ∷ xs) (y ∷ ys) zip =
    (λ i. cons_option (each x y zip.0 i) (filter_map-zip R f g h each xs ys zip.1 i)) ∙ by (f x)
  where
    by : (o : Option A) → cons_option (option_map h o) (map h (filter_map f xs)) ≡ map h (cons_option o (filter_map f xs))
    by None = refl
    by (Some a) = refl

flat_map-zip : {X Y A : Type 0} (R : X → Y → Type 0) (f : X → List A) (g : Y → List A) (h : A → A)
    → ((x : X) (y : Y) → R x y → g y ≡ map h (f x)) → (xs : List X) (ys : List Y) → AllZip R xs ys → flat_map g ys ≡ map h (flat_map f xs)
flat_map-zip R f g h each [] [] zip = refl
flat_map-zip R f g h each [] (y ∷ ys) zip = absurd zip
flat_map-zip R f g h each (x ∷ xs) [] zip = absurd zip
flat_map-zip R f g h each (x ∷ xs) (y ∷ ys) zip =
    (λ i. each x y zip.0 i ++ flat_map-zip R f g h each xs ys zip.1 i) ∙ sym (map-append h (f x) (flat_map f xs))

-- what is the same in each LSA before and after
record IsAlike (old new : List ℕ) : Type 0 where
  kind : kind_of new ≡ kind_of old
  id : link_state_id_of new ≡ link_state_id_of old
  adv : advertising_router_of new ≡ advertising_router_of old
  age : is_at_max_age new ≡ is_at_max_age old

same_vertex : (old new : List ℕ) → IsAlike old new → vertex_of new ≡ vertex_of old
same_vertex old new s = λ i. cond (eqb (s.kind i) 1) (Router (record { 0 = s.id i })) (Network (record { 0 = s.id i }))

module _ (change : CostChange) where
  abbrev pub router : Vertex
  router = Router change.from

  -- whether an edge is over the interface
  abbrev pub hits : DirectedEdge Vertex → Bool
  hits e = is_same e.from router && (is_same change.to e.to && eqb e.link_data.0 change.link_data.0)

  -- an edge after the change
  abbrev pub priced : DirectedEdge Vertex → DirectedEdge Vertex
  priced e = record { from = e.from; to = e.to; cost = cond (hits e) change.cost e.cost; link_data = e.link_data }

  alike : (old new : List ℕ) → IsChanged change old new → IsAlike old new
  alike old new (inl p) = record { kind = ap kind_of p.0; id = ap link_state_id_of p.0; adv = ap advertising_router_of p.0; age = ap is_at_max_age p.0 }
  alike old new (inr s) = record {
    kind = s.is.0 ∙ sym s.was.0;
    id = s.is.1 ∙ sym s.was.1;
    adv = s.adv;
    age = s.age;
  }

  -- ---- the LSAs in use

  same_is_vertex : (old new : List ℕ) → IsChanged change old new → is_vertex_lsa new ≡ is_vertex_lsa old
  same_is_vertex old new h = let s = alike old new h in λ i. not (s.age i) && (eqb (s.kind i) 1 || eqb (s.kind i) 2)

  same_rank : (a b c d : List ℕ) → IsChanged change a b → IsChanged change c d → is_outranked_by b d ≡ is_outranked_by a c
  same_rank a b c d h k =
      let s = alike a b h in
      let t = alike c d k in
      λ i. eqb (s.kind i) 2 && (eqb (t.kind i) 2 && (eqb (t.id i) (s.id i) && ltb (s.adv i) (t.adv i)))

  pub changed_used : (lsas others : List (List ℕ)) → AreChanged change lsas others → AreChanged change (used lsas) (used others)
  unfolding used
  changed_used lsas others changed =
      let live = zip-filter (IsChanged change) is_vertex_lsa is_vertex_lsa same_is_vertex lsas others changed in
      zip-filter (IsChanged change) (λ lsa. not (list_any (is_outranked_by lsa) (vertex_lsas lsas))) (λ lsa. not (list_any (is_outranked_by lsa) (vertex_lsas others)))
      (λ a b h. ap not (zip-any (IsChanged change) (is_outranked_by a) (is_outranked_by b) (λ c d k. same_rank a b c d h k) (vertex_lsas lsas) (vertex_lsas others) live))
      (vertex_lsas lsas) (vertex_lsas others) live

  vertices_zip : (lsas others : List (List ℕ)) → AreChanged change lsas others → map vertex_of others ≡ map vertex_of lsas
  vertices_zip [] [] zip = refl
  vertices_zip [] (y ∷ ys) zip = absurd zip
  vertices_zip (x ∷ xs) [] zip = absurd zip
  vertices_zip (x ∷ xs) (y ∷ ys) zip = λ i. same_vertex x y (alike x y zip.0) i ∷ vertices_zip xs ys zip.1 i

  pub same_vertices : (lsas others : List (List ℕ)) → AreChanged change lsas others → vertices_of others ≡ vertices_of lsas
  same_vertices lsas others changed = vertices_zip (used lsas) (used others) (changed_used lsas others changed)

  -- ---- the edges over links

  abbrev over : Vertex → Link → Vertex → DirectedEdge Vertex
  over v link w = record { from = v; to = w; cost = link.metric; link_data = link.link_data }

  same_target : (old new : Link) → IsChangedLink change old new → target_of new ≡ target_of old
  same_target old new s = λ i. target_by (s.kind i) (s.id i)

  changed_over : (old new : Link) → IsChangedLink change old new → edge_over router new ≡ option_map priced (edge_over router old)
  changed_over old new s = ap (option_map (over router new)) (same_target old new s) ∙ by (target_of old) refl
    where
      same_test : (w : Vertex) → target_of old ≡ Some w → is_over change old ≡ hits (over router old w)
      same_test w is =
          ap (λ (o : Option Vertex). option_map_or (is_same change.to) o false && eqb old.link_data.0 change.link_data.0) is
          ∙ ap (λ (b : Bool). b && (is_same change.to w && eqb old.link_data.0 change.link_data.0)) (sym (is_same-from router router refl))

      by : (o : Option Vertex) → target_of old ≡ o → option_map (over router new) o ≡ option_map priced (option_map (over router old) o)
      by None is = refl
      by (Some w) is =
          let metric : new.metric ≡ cond (hits (over router old w)) change.cost old.metric =
          s.metric ∙ ap (λ (b : Bool). cond b change.cost old.metric) (same_test w is) in
          λ i. Some (let e : DirectedEdge Vertex = record { from = router; to = w; cost = metric i; link_data = s.link_data i } in e)

  routers_links : (lsa : List ℕ) → is_router_lsa lsa ≡ true → router_links lsa ≡ links_of lsa
  routers_links lsa is = ap (λ (b : Bool). cond b (links_of lsa) []) is

  -- edges of another vertex stay
  apart : (u : Vertex) → is_same u router ≡ false → (links : List Link) → filter_map (edge_over u) links ≡ map priced (filter_map (edge_over u) links)
  apart u other [] = refl
  apart u other (link ∷ links) = ap (cons_option (edge_over u link)) (apart u other links) ∙ by (target_of link)
    where
      by : (o : Option Vertex) → cons_option (option_map (over u link) o) (map priced (filter_map (edge_over u) links))
          ≡ map priced (cons_option (option_map (over u link) o) (filter_map (edge_over u) links))
      by None = refl
      by (Some w) = λ i. (let e : DirectedEdge Vertex = record {
        from = u;
        to = w;
        cost = cond (sym other i && (is_same change.to w && eqb link.link_data.0 change.link_data.0)) change.cost link.metric;
        link_data = link.link_data;
      } in e) ∷ map priced (filter_map (edge_over u) links)

  changed_edges_over : (old new : List ℕ) → IsChanged change old new → edges_over new ≡ map priced (edges_over old)
  changed_edges_over old new (inl p) = ap edges_over p.0 ∙ apart (vertex_of old) p.1 (router_links old)
  changed_edges_over old new (inr s) =
      let was : vertex_of old ≡ router = vertex_of_router old change.from s.was in
      let is : vertex_of new ≡ router = vertex_of_router new change.from s.is in
      (λ i. filter_map (edge_over (is i)) (routers_links new (eq-eqb (kind_of new) 1 s.is.0) i))
      ∙ filter_map-zip (IsChangedLink change) (edge_over router) (edge_over router) priced changed_over (links_of old) (links_of new) s.links
      ∙ ap (map priced) (λ i. filter_map (edge_over (sym was i)) (sym (routers_links old (eq-eqb (kind_of old) 1 s.was.0)) i))

  -- ---- the edges whose other end links back

  same_named : (old new : List ℕ) → IsChanged change old new → named_by new ≡ named_by old
  same_named old new (inl p) = ap named_by p.0
  same_named old new (inr s) = routers new (eq-eqb (kind_of new) 1 s.is.0) ∙ targets ∙ sym (routers old (eq-eqb (kind_of old) 1 s.was.0))
    where
      routers : (lsa : List ℕ) → is_router_lsa lsa ≡ true → named_by lsa ≡ filter_map target_of (links_of lsa)
      routers lsa is = ap (λ (b : Bool). cond b (filter_map target_of (links_of lsa))
          (cond (is_network_lsa lsa) (map (λ r. Router r) (attached_of lsa)) [])) is

      targets : filter_map target_of (links_of new) ≡ filter_map target_of (links_of old)
      targets = same-filter_map (IsChangedLink change) target_of target_of same_target (links_of old) (links_of new) s.links

  same_names : (v w : Vertex) (old new : List ℕ) → IsChanged change old new → names v w new ≡ names v w old
  same_names v w old new h =
      let vertex = same_vertex old new (alike old new h) in
      let named = same_named old new h in
      λ i. is_same (vertex i) v && list_any (λ x. is_same x w) (named i)

  abbrev inward : DirectedEdge Vertex → Bool
  inward e = is_network e.to

  not_router : (v : Vertex) → is_network v ≡ true → is_same v router ≡ false
  not_router (Router x) network = absurd (true≢false (sym network))
  not_router (Network n) network = refl

  changed_backs : (es : List (DirectedEdge Vertex)) → map back (map priced (filter inward es)) ≡ map priced (map back (filter inward es))
  changed_backs [] = refl
  changed_backs (e ∷ es) = by (is_network e.to) refl (changed_backs es)
    where
      by : (b : Bool) → is_network e.to ≡ b → map back (map priced (filter inward es)) ≡ map priced (map back (filter inward es))
          → map back (map priced (cond b (e ∷ filter inward es) (filter inward es))) ≡ map priced (map back (cond b (e ∷ filter inward es) (filter inward es)))
      by false is more = more
      by true is more = λ i. (let f : DirectedEdge Vertex = record {
        from = e.to;
        to = e.from;
        cost = cond (sym (not_router e.to is) i && (is_same change.to e.from && eqb e.link_data.0 change.link_data.0)) change.cost 0;
        link_data = e.link_data;
      } in f) ∷ more i

  module _ (lsas others : List (List ℕ)) (changed : AreChanged change lsas others) where
    same_returned : (e : DirectedEdge Vertex) → is_returned others (priced e) ≡ is_returned lsas e
    same_returned e = zip-any (IsChanged change) (names e.to e.from) (names e.to e.from) (same_names e.to e.from) lsas others changed

    changed_router_edges : router_edges others ≡ map priced (router_edges lsas)
    changed_router_edges =
        ap (filter (is_returned others)) (flat_map-zip (IsChanged change) edges_over edges_over priced changed_edges_over lsas others changed)
        ∙ filter-of_map priced (is_returned others) (is_returned lsas) same_returned (flat_map edges_over lsas)

    pub changed_edges : area_edges others ≡ map priced (area_edges lsas)
    unfolding area_edges
    changed_edges =
        (λ i. changed_router_edges i ++ map back (filter inward (changed_router_edges i)))
        ∙ ap (λ (es : List (DirectedEdge Vertex)). map priced (router_edges lsas) ++ map back es)
        (filter-of_map priced inward inward (λ e. refl) (router_edges lsas))
        ∙ ap (λ (es : List (DirectedEdge Vertex)). map priced (router_edges lsas) ++ es) (changed_backs (router_edges lsas))
        ∙ sym (map-append priced (router_edges lsas) (map back (filter inward (router_edges lsas))))
