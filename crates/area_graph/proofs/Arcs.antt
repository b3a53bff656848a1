-- Edges between numbers stand for edges between vertices.
use Rattle.std.proofs.Common.{◌≡◌, ◌≢◌, ℕ, zero, suc, eqb, Bool, true, false, cond, ◌||◌, List, [], ◌∷◌, ◌++◌, map}
use Rattle.std.proofs.Common.{Option, None, Some, refl, sym, ap, ◌∙◌, inl, inr, true≢false}
use Rattle.std.specs.List.{slice_get, AllPairs, position, filter, filter_map, flat_map, cons_option, list_any}
use Rattle.std.specs.Option.{option_map, unwrap_or}
use Rattle.std.proofs.lemmas.Bool.{eqb-true, eq-eqb}
use Rattle.std.proofs.lemmas.List.Elements.{filter_map-append}
use Rattle.lsa_codec.specs.declared.address.Addr.{Addr}
use Rattle.lsa_codec.specs.declared.address.RouterId.{RouterId}
use Rattle.lsa_codec.specs.declared.link.Link.{Link}
use Rattle.lsa_codec.specs.Links.{links_of}
use Rattle.lsa_codec.specs.Views.{attached_of}
use Rattle.area_graph.specs.declared.vertex.Vertex.{Vertex}
use Rattle.area_graph.specs.declared.vertex.Vertex.TheVariants.{Router}
use Rattle.area_graph.specs.declared.edge.Edge.{Edge}
use Rattle.area_graph.specs.Vertex.{is_same, is_network}
use Rattle.area_graph.specs.Paths.{DirectedEdge}
use Rattle.area_graph.specs.Area.{is_router_lsa, is_network_lsa}
use Rattle.area_graph.specs.AreaEdges.{target_of, named_by, edge_over, back}
use Rattle.area_graph.specs.Rows.{numbered, is_out_of}
use Rattle.area_graph.specs.steps.Naming.{edge_to_some, linked, listed, naming}
use Rattle.area_graph.specs.steps.Drafts.{arc_of, edge_of, out_of, is_network_at, arc_back, both_arcs, both_ways}
use Rattle.area_graph.proofs.MemberLemmas.{In, Some-same}
use Rattle.area_graph.proofs.AllPathsLemmas.{same_from_is_same, is_same-from}
use Rattle.area_graph.proofs.VertexNumbers.{found, has_number, missing, at_one_place}

-- ---- lists

-- a test of a function's results is a test of its arguments
pub filter-filter_map : {X Y : Type 0} (p : Y → Bool) (q : X → Bool) (f : X → Option Y) → ((x : X) (y : Y) → f x ≡ Some y → p y ≡ q x)
    → (xs : List X) → filter p (filter_map f xs) ≡ filter_map f (filter q xs)
filter-filter_map p q f same [] = refl
filter-filter_map {X} {Y} p q f same (x ∷ xs) = by (f x) refl (q x) refl (filter-filter_map p q f same xs)
  where
    by : (o : Option Y) → f x ≡ o → (b : Bool) → q x ≡ b → filter p (filter_map f xs) ≡ filter_map f (filter q xs)
        → filter p (cons_option o (filter_map f xs)) ≡ filter_map f (cond b (x ∷ (filter q xs)) (filter q xs))
    by None at false is rest = rest
    by None at true is rest = rest ∙ sym (ap (λ (o : Option Y). cons_option o (filter_map f (filter q xs))) at)
    by (Some y) at false is rest = ap (λ (b : Bool). cond b (y ∷ filter p (filter_map f xs)) (filter p (filter_map f xs))) (same x y at ∙ is) ∙ rest
    by (Some y) at true is rest =
        ap (λ (b : Bool). cond b (y ∷ filter p (filter_map f xs)) (filter p (filter_map f xs))) (same x y at ∙ is) ∙ ap (λ (ys : List Y). y ∷ ys) rest
        ∙ sym (ap (λ (o : Option Y). cons_option o (filter_map f (filter q xs))) at)

-- so are lists for each item
pub flat_map-filter_map : {X Y : Type 0} (f : X → Option Y) (g : Y → List Y) (h : X → List X) → ((x : X) → f x ≡ None → filter_map f (h x) ≡ [])
    → ((x : X) (y : Y) → f x ≡ Some y → filter_map f (h x) ≡ g y) → (xs : List X) → flat_map g (filter_map f xs) ≡ filter_map f (flat_map h xs)
flat_map-filter_map f g h none some [] = refl
flat_map-filter_map {X} {Y} f g h none some (x ∷ xs) =
    by (f x) refl ∙ ap (λ (ys : List Y). filter_map f (h x) ++ ys) (flat_map-filter_map f g h none some xs)
    ∙ sym (filter_map-append f (h x) (flat_map h xs))
  where
    by : (o : Option Y) → f x ≡ o → flat_map g (cons_option o (filter_map f xs)) ≡ filter_map f (h x) ++ flat_map g (filter_map f xs)
    by None at = ap (λ (ys : List Y). ys ++ flat_map g (filter_map f xs)) (sym (none x at))
    by (Some y) at = ap (λ (ys : List Y). ys ++ flat_map g (filter_map f xs)) (sym (some x y at))

pub at_map : {X Y : Type 0} (f : X → Y) (xs : List X) (i : ℕ) (x : X) → slice_get xs i ≡ Some x → slice_get (map f xs) i ≡ Some (f x)
at_map f [] i x at = absurd (cc)
at_map {X} {Y} f (y ∷ xs) zero x at = ap (λ (z : X). let o : Option Y = Some (f z) in o) (Some-same at)
at_map f (y ∷ xs) (suc i) x at = at_map f xs i x at

pub map_at : {X Y : Type 0} (f : X → Y) (xs : List X) (i : ℕ) (y : Y) → slice_get (map f xs) i ≡ Some y → (x : X) × (slice_get xs i ≡ Some x) × (f x ≡ y)
map_at f [] i y at = absurd (cc)
map_at f (x ∷ xs) zero y at = (x, refl, Some-same at)
map_at f (x ∷ xs) (suc i) y at = map_at f xs i y at

pub In-at : {X : Type 0} (xs : List X) (i : ℕ) (x : X) → slice_get xs i ≡ Some x → In xs x
In-at [] i x at = absurd (cc)
In-at (y ∷ xs) zero x at = inl (Some-same at)
In-at (y ∷ xs) (suc i) x at = inr (In-at xs i x at)

pub at-In : {X : Type 0} (xs : List X) (x : X) → In xs x → (i : ℕ) × (slice_get xs i ≡ Some x)
at-In [] x h = absurd h
at-In (y ∷ xs) x (inl is) = (0, ap (λ z. Some z) is)
at-In (y ∷ xs) x (inr h) = let r = at-In xs x h in (suc r.0, r.1)

-- ---- numbers

module _ (vs : List Vertex) (distinct : AllPairs (λ v w. v ≢ w) vs) where
  pub number_at : (i : ℕ) (v : Vertex) → slice_get vs i ≡ Some v → position (is_same v) vs ≡ Some i
  number_at i v at =
      let n = has_number vs v v i at (is_same-from v v refl) in
      n.1 ∙ ap (λ (k : ℕ). let o : Option ℕ = Some k in o) (at_one_place vs distinct n.0 i v (found vs v n.0 n.1).1 at)

  -- the numbers of two vertices are one where the vertices are
  pub same_number : (u v : Vertex) (i j : ℕ) → position (is_same u) vs ≡ Some j → slice_get vs i ≡ Some v → eqb j i ≡ is_same u v
  same_number u v i j at_u at_v = by (is_same u v) refl
    where
      no_number : is_same u v ≡ false → (b : Bool) → eqb j i ≡ b → b ≡ false
      no_number other false is = refl
      no_number other true is =
          absurd (true≢false (sym (is_same-from u v (Some-same (sym (found vs u j at_u).1 ∙ ap (slice_get vs) (eqb-true j i is) ∙ at_v))) ∙ other))

      by : (b : Bool) → is_same u v ≡ b → eqb j i ≡ b
      by true is = eq-eqb j i (Some-same (sym at_u ∙ ap (λ (x : Vertex). position (is_same x) vs) (same_from_is_same u v is) ∙ number_at i v at_v))
      by false is = no_number is (eqb j i) refl

  -- the edge between the numbers of its ends, where both have one
  arc_by : DirectedEdge Vertex → Option ℕ → Option ℕ → Option (DirectedEdge ℕ)
  arc_by f None to = None
  arc_by f (Some i) None = None
  arc_by f (Some i) (Some j) = Some (record { from = i; to = j; cost = f.cost; link_data = f.link_data })

  pub arc_between : DirectedEdge Vertex → Option (DirectedEdge ℕ)
  arc_between f = arc_by f (position (is_same f.from) vs) (position (is_same f.to) vs)

  abbrev edge_at_number : DirectedEdge Vertex → ℕ → Edge
  edge_at_number f to = record { to = to; cost = f.cost; link_data = f.link_data }

  abbrev with_first : ℕ → List (DirectedEdge ℕ) → DirectedEdge Vertex → ℕ → ℕ → Bool → List Edge
  with_first i arcs f k m b = map edge_of (cond b ((record { from = k; to = m; cost = f.cost; link_data = f.link_data }) ∷ filter (λ a. eqb a.from i) arcs)
      (filter (λ a. eqb a.from i) arcs))

  -- the row of a vertex has them in the same order
  pub rows_same : (i : ℕ) (v : Vertex) → slice_get vs i ≡ Some v → (fs : List (DirectedEdge Vertex))
      → out_of i (filter_map arc_between fs) ≡ filter_map (numbered vs) (filter (is_out_of v) fs)
  unfolding arc_between arc_by
  rows_same i v at [] = refl
  rows_same i v at (f ∷ fs) = by (position (is_same f.from) vs) refl (position (is_same f.to) vs) refl (is_same f.from v) refl (rows_same i v at fs)
    where
      by : (p : Option ℕ) → position (is_same f.from) vs ≡ p → (q : Option ℕ) → position (is_same f.to) vs ≡ q → (b : Bool) → is_same f.from v ≡ b
          → out_of i (filter_map arc_between fs) ≡ filter_map (numbered vs) (filter (is_out_of v) fs)
          → out_of i (cons_option (arc_by f p q) (filter_map arc_between fs)) ≡ filter_map (numbered vs) (cond b (f ∷ filter (is_out_of v) fs) (filter (is_out_of v) fs))
      by None p q to false out rest = rest
      by None p q to true out rest = absurd (missing vs f.from p i v at out)
      by (Some k) p None to false out rest = rest
      by (Some k) p None to true out rest = rest ∙ sym (ap (λ (o : Option ℕ). cons_option (option_map (edge_at_number f) o) (filter_map (numbered vs) (filter (is_out_of v) fs))) to)
      by (Some k) p (Some m) to false out rest = ap (with_first i (filter_map arc_between fs) f k m) (same_number f.from v i k p at ∙ out) ∙ rest
      by (Some k) p (Some m) to true out rest =
          ap (with_first i (filter_map arc_between fs) f k m) (same_number f.from v i k p at ∙ out) ∙ ap (λ (r : List Edge). edge_at_number f m ∷ r) rest
          ∙ sym (ap (λ (o : Option ℕ). cons_option (option_map (edge_at_number f) o) (filter_map (numbered vs) (filter (is_out_of v) fs))) to)

  -- the properties of an edge between numbers, by the edge that it stands for
  pub record IsBetween (f : DirectedEdge Vertex) (a : DirectedEdge ℕ) : Type 0 where
    pub from : position (is_same f.from) vs ≡ Some a.from
    pub to : position (is_same f.to) vs ≡ Some a.to
    pub carried : f.link_data ≡ a.link_data

  pub between : (f : DirectedEdge Vertex) (a : DirectedEdge ℕ) → arc_between f ≡ Some a → IsBetween f a
  unfolding arc_between arc_by
  between f a is = by (position (is_same f.from) vs) refl (position (is_same f.to) vs) refl is
    where
      by : (p : Option ℕ) → position (is_same f.from) vs ≡ p → (q : Option ℕ) → position (is_same f.to) vs ≡ q → arc_by f p q ≡ Some a → IsBetween f a
      by None p q to is = absurd (cc)
      by (Some k) p None to is = absurd (cc)
      by (Some k) p (Some m) to is =
          let same = Some-same is in record {
            from = p ∙ ap (λ (b : DirectedEdge ℕ). let o : Option ℕ = Some b.from in o) same;
            to = to ∙ ap (λ (b : DirectedEdge ℕ). let o : Option ℕ = Some b.to in o) same;
            carried = ap (λ (b : DirectedEdge ℕ). b.link_data) same;
          }

  pub network_at : (i : ℕ) (v : Vertex) → slice_get vs i ≡ Some v → is_network_at vs i ≡ is_network v
  network_at i v at = ap (λ (o : Option Vertex). unwrap_or (option_map is_network o) false) at

  -- both ways
  pub no_ways : (f : DirectedEdge Vertex) → arc_between f ≡ None → filter_map arc_between (both_ways f) ≡ []
  unfolding arc_between arc_by
  no_ways f none = by (is_network f.to)
    where
      turned : (p q : Option ℕ) → arc_by f p q ≡ None → arc_by (back f) q p ≡ None
      turned None None is = refl
      turned None (Some m) is = refl
      turned (Some k) None is = refl
      turned (Some k) (Some m) is = absurd (cc)

      by : (b : Bool) → filter_map arc_between (cond b (f ∷ back f ∷ []) (f ∷ [])) ≡ []
      by false = ap (λ (o : Option (DirectedEdge ℕ)). cons_option o []) none
      by true =
          ap (λ (o : Option (DirectedEdge ℕ)). cons_option o (cons_option (arc_between (back f)) [])) none
          ∙ ap (λ (o : Option (DirectedEdge ℕ)). cons_option o []) (turned (position (is_same f.from) vs) (position (is_same f.to) vs) none)

  pub ways : (f : DirectedEdge Vertex) (a : DirectedEdge ℕ) → arc_between f ≡ Some a → filter_map arc_between (both_ways f) ≡ both_arcs vs a
  unfolding arc_between arc_by
  ways f a is =
      by (is_network f.to) ∙ ap (λ (b : Bool). cond b (a ∷ arc_back a ∷ []) (a ∷ [])) (sym (network_at a.to f.to (found vs f.to a.to ends.to).1))
    where
      ends : IsBetween f a
      ends = between f a is

      turned : arc_between (back f) ≡ Some (arc_back a)
      turned =
          ap (λ (o : Option ℕ). arc_by (back f) o (position (is_same f.from) vs)) ends.to ∙ ap (λ (o : Option ℕ). arc_by (back f) (Some a.to) o) ends.from
          ∙ ap (λ (d : Addr). let o : Option (DirectedEdge ℕ) = Some (record { from = a.to; to = a.from; cost = 0; link_data = d }) in o) ends.carried

      by : (b : Bool) → filter_map arc_between (cond b (f ∷ back f ∷ []) (f ∷ [])) ≡ cond b (a ∷ arc_back a ∷ []) (a ∷ [])
      by false = ap (λ (o : Option (DirectedEdge ℕ)). cons_option o []) is
      by true = λ i. cons_option (is i) (cons_option (turned i) [])

  -- an edge to a vertex names it
  any_step : (i : ℕ) (v : Vertex) → slice_get vs i ≡ Some v → (o : Option Vertex) (cost : ℕ) (d : Addr) (row : List Edge) (named : List Vertex)
      → list_any (λ e. eqb e.to i) row ≡ list_any (λ u. is_same u v) named
      → list_any (λ e. eqb e.to i) (cons_option (edge_to_some vs o cost d) row) ≡ list_any (λ u. is_same u v) (cons_option o named)
  any_step i v at None cost d row named rest = rest
  any_step i v at (Some u) cost d row named rest = by (position (is_same u) vs) refl
    where
      other : position (is_same u) vs ≡ None → (b : Bool) → is_same u v ≡ b → b ≡ false
      other none false is = refl
      other none true is = absurd (missing vs u none i v at is)

      by : (o : Option ℕ) → position (is_same u) vs ≡ o
          → list_any (λ e. eqb e.to i) (cons_option (option_map (λ to. let e : Edge = record { to = to; cost = cost; link_data = d } in e) o) row) ≡ (is_same u v || list_any (λ u. is_same u v) named)
      by None none = rest ∙ ap (λ (b : Bool). b || list_any (λ u. is_same u v) named) (sym (other none (is_same u v) refl))
      by (Some j) some = ap (λ (b : Bool). b || list_any (λ e. eqb e.to i) row) (same_number u v i j some at) ∙ ap (λ (b : Bool). is_same u v || b) rest

  any_linked : (i : ℕ) (v : Vertex) → slice_get vs i ≡ Some v → (links : List Link)
      → list_any (λ e. eqb e.to i) (filter_map (linked vs) links) ≡ list_any (λ u. is_same u v) (filter_map target_of links)
  any_linked i v at [] = refl
  any_linked i v at (link ∷ links) =
      any_step i v at (target_of link) link.metric link.link_data (filter_map (linked vs) links) (filter_map target_of links) (any_linked i v at links)

  any_listed : (i : ℕ) (v : Vertex) → slice_get vs i ≡ Some v → (routers : List RouterId)
      → list_any (λ e. eqb e.to i) (filter_map (listed vs) routers) ≡ list_any (λ u. is_same u v) (map (λ router. Router router) routers)
  any_listed i v at [] = refl
  any_listed i v at (router ∷ routers) =
      any_step i v at (Some (Router router)) 0 (record { 0 = 0 }) (filter_map (listed vs) routers) (map (λ router. Router router) routers)
      (any_listed i v at routers)

  pub any_naming : (i : ℕ) (v : Vertex) → slice_get vs i ≡ Some v → (lsa : List ℕ)
      → list_any (λ e. eqb e.to i) (naming vs lsa) ≡ list_any (λ u. is_same u v) (named_by lsa)
  any_naming i v at lsa = by (is_router_lsa lsa) (is_network_lsa lsa)
    where
      by : (b c : Bool) → list_any (λ e. eqb e.to i)
          (cond b (filter_map (linked vs) (links_of lsa)) (cond c (filter_map (listed vs) (attached_of lsa)) [])) ≡ list_any (λ u. is_same u v)
          (cond b (filter_map target_of (links_of lsa)) (cond c (map (λ router. Router router) (attached_of lsa)) []))
      by true c = any_linked i v at (links_of lsa)
      by false true = any_listed i v at (attached_of lsa)
      by false false = refl

  abbrev link_edge : Link → ℕ → Edge
  link_edge link to = record { to = to; cost = link.metric; link_data = link.link_data }

  -- the edges over the links of a vertex
  pub arcs_over : (k : ℕ) (v : Vertex) → slice_get vs k ≡ Some v → (links : List Link)
      → map (arc_of k) (filter_map (linked vs) links) ≡ filter_map arc_between (filter_map (edge_over v) links)
  unfolding arc_between arc_by
  arcs_over k v at [] = refl
  arcs_over k v at (link ∷ links) = by (target_of link) (arcs_over k v at links)
    where
      by_number : (w : Vertex) (o : Option ℕ) → map (arc_of k) (filter_map (linked vs) links) ≡ filter_map arc_between (filter_map (edge_over v) links)
          → map (arc_of k) (cons_option (option_map (link_edge link) o) (filter_map (linked vs) links))
          ≡ cons_option (arc_by (record { from = v; to = w; cost = link.metric; link_data = link.link_data }) (Some k) o) (filter_map arc_between (filter_map (edge_over v) links))
      by_number w None rest = rest
      by_number w (Some m) rest = ap (λ (arcs : List (DirectedEdge ℕ)). arc_of k (link_edge link m) ∷ arcs) rest

      by : (o : Option Vertex) → map (arc_of k) (filter_map (linked vs) links) ≡ filter_map arc_between (filter_map (edge_over v) links)
          → map (arc_of k) (cons_option (edge_to_some vs o link.metric link.link_data) (filter_map (linked vs) links))
          ≡ filter_map arc_between (cons_option (option_map (λ w. let f : DirectedEdge Vertex = record {
            from = v;
            to = w;
            cost = link.metric;
            link_data = link.link_data;
          } in f) o) (filter_map (edge_over v) links))
      by None rest = rest
      by (Some w) rest =
          by_number w (position (is_same w) vs) rest
          ∙ ap (λ (o : Option ℕ). cons_option (arc_by (record { from = v; to = w; cost = link.metric; link_data = link.link_data }) o
          (position (is_same w) vs)) (filter_map arc_between (filter_map (edge_over v) links))) (sym (number_at k v at))
