-- `distance_of` is the distance, and `least_paths_of` are all paths of least cost.
use Rattle.std.proofs.Common.{◌≡◌, ℕ, zero, suc, ◌+◌, ◌<◌, ◌≤◌, Bool, true, false, cond, List, [], ◌∷◌, ◌++◌, map, length, Option, None, Some, refl}
use Rattle.std.proofs.Common.{sym, ap, subst, arith, inl, inr, ⊎_elim}
use Rattle.std.specs.Prelude.{nat_le, MatchOption}
use Rattle.std.specs.List.{Contains, list_all}
use Rattle.std.specs.Ordering.{nat_cmp, is_lt}
use Rattle.std.specs.declared.cmp.Ordering.{Ordering}
use Rattle.std.specs.declared.cmp.Ordering.TheVariants.{Less, Equal, Greater}
use Rattle.std.proofs.lemmas.Bool.{false≢true, and_parts, and_from, eqb-true, eq-eqb, leb-true, le-leb}
use Rattle.std.proofs.lemmas.Cmp.{ranked}
use Rattle.std.proofs.lemmas.Map.Keys.{ge_from_not_lt}
use Rattle.std.proofs.lemmas.List.{length-append}
use Rattle.area_graph.specs.declared.vertex.Vertex.{Vertex}
use Rattle.area_graph.specs.declared.vertex.Vertex.TheVariants.{Router, Network}
use Rattle.area_graph.specs.Vertex.{is_same}
use Rattle.area_graph.specs.Least.{least, lesser}
use Rattle.area_graph.specs.Paths.{DirectedEdge, path_cost, IsPath, NoPathBelow, IsDistance}
use Rattle.area_graph.specs.AllPaths.{lists_within, leads, paths_of, least_paths_of, distance_of}
use Rattle.area_graph.proofs.PathLemmas.{path_cost-append, IsPath-append, IsDistance-same, IsDistance-same_edges}
use Rattle.area_graph.proofs.MemberLemmas.{In, In-from_Contains, Contains-from_In, In-filter, filter-In, list_all-In, In-list_all, Repeats}
use Rattle.area_graph.proofs.MemberLemmas.{repeats_or_short, In-map, map-In, In-lists_within, lists_within-In}

-- ---- vertices

pub same_from_is_same : (v w : Vertex) → is_same v w ≡ true → v ≡ w
same_from_is_same (Router a) (Router b) h = ap (λ (n : ℕ). Router (record { 0 = n })) (eqb-true a.0 b.0 h)
same_from_is_same (Network a) (Network b) h = ap (λ (n : ℕ). Network (record { 0 = n })) (eqb-true a.0 b.0 h)
same_from_is_same (Router a) (Network b) h = absurd (false≢true h)
same_from_is_same (Network a) (Router b) h = absurd (false≢true h)

is_same-self : (v : Vertex) → is_same v v ≡ true
is_same-self (Router a) = eq-eqb a.0 a.0 refl
is_same-self (Network a) = eq-eqb a.0 a.0 refl

pub is_same-from : (v w : Vertex) → v ≡ w → is_same v w ≡ true
is_same-from v w p = subst (λ (x : Vertex). is_same v x ≡ true) p (is_same-self v)

-- ---- the least of a list of numbers

lt_from : (a b : ℕ) → is_lt (nat_cmp a b) ≡ true → a < b
lt_from a b h = by_answer (nat_cmp a b) refl h
  where
    by_answer : (r : Ordering) → r ≡ nat_cmp a b → is_lt r ≡ true → a < b
    by_answer Less is t = ranked a b Less is
    by_answer Equal is t = absurd (false≢true t)
    by_answer Greater is t = absurd (false≢true t)

-- the least of a list, by its members
abbrev LeastIs : List ℕ → Option ℕ → Type 0
LeastIs ks o = MatchOption o ((k : ℕ) → In ks k → ⊥) (λ d. In ks d × ((k : ℕ) → In ks k → d ≤ k))

least_with : (k m : ℕ) (ks : List ℕ) → In ks m → ((x : ℕ) → In ks x → m ≤ x) → (b : Bool) → is_lt (nat_cmp m k) ≡ b → LeastIs (k ∷ ks) (Some (cond b m k))
least_with k m ks there low true is = (inr there, λ x. ⊎_elim (λ q. (let lt = lt_from m k is in let e : k ≡ x = q in omega arith)) (λ i. low x i))
least_with k m ks there low false is =
    (inl refl, λ x. ⊎_elim (λ q. (let e : k ≡ x = q in omega arith)) (λ i. (let ge = ge_from_not_lt m k is in let one : m ≤ x = low x i in omega arith)))

least_more : (k : ℕ) (ks : List ℕ) (o : Option ℕ) → LeastIs ks o → LeastIs (k ∷ ks) (Some (lesser nat_cmp k o))
least_more k ks None none = (inl refl, λ x. ⊎_elim (λ q. (let e : k ≡ x = q in omega arith)) (λ i. absurd (none x i)))
least_more k ks (Some m) (there, low) = least_with k m ks there low (is_lt (nat_cmp m k)) refl

least_is : (ks : List ℕ) → LeastIs ks (least nat_cmp ks)
least_is [] = λ k i. i
least_is (k ∷ ks) = least_more k ks (least nat_cmp ks) (least_is ks)

-- ---- cutting a path where an edge occurs twice

module _ {V : Type 0} (IsEdge : DirectedEdge V → Type 0) where
  IsPath-split : (u w : V) (es fs : List (DirectedEdge V)) → IsPath IsEdge u (es ++ fs) w → (v : V) × IsPath IsEdge u es v × IsPath IsEdge v fs w
  IsPath-split u w [] fs p = (u, refl, p)
  IsPath-split u w (e ∷ es) fs p = let r = IsPath-split e.to w es fs p.2 in (r.0, (p.0, p.1, r.1), r.2)

  -- the path without the part between, and the part between
  cut : (u w : V) (a b c : List (DirectedEdge V)) (e : DirectedEdge V) → IsPath IsEdge u (a ++ (e ∷ (b ++ (e ∷ c)))) w
      → IsPath IsEdge u (a ++ (e ∷ c)) w × IsEdge e × IsPath IsEdge e.to b e.from
  cut u w a b c e p =
      let front = IsPath-split u w a (e ∷ (b ++ (e ∷ c))) p in
      let after = IsPath-split e.to w b (e ∷ c) front.2.2 in (
        IsPath-append IsEdge u front.0 w a (e ∷ c) front.1 (front.2.0, front.2.1, after.2.2),
        front.2.0,
        subst (λ (x : V). IsPath IsEdge e.to b x) (sym after.2.1) after.1,
      )

  path_cost-cut : (a b c : List (DirectedEdge V)) (e : DirectedEdge V)
      → path_cost (a ++ (e ∷ (b ++ (e ∷ c)))) ≡ path_cost (a ++ (e ∷ c)) + (path_cost b + e.cost)
  path_cost-cut a b c e =
      let one = path_cost-append a (e ∷ (b ++ (e ∷ c))) in
      let two = path_cost-append b (e ∷ c) in
      let three = path_cost-append a (e ∷ c) in
      omega arith

  length-cut : (a b c : List (DirectedEdge V)) (e : DirectedEdge V) → length (a ++ (e ∷ c)) < length (a ++ (e ∷ (b ++ (e ∷ c))))
  length-cut a b c e =
      let one = length-append a (e ∷ (b ++ (e ∷ c))) in
      let two = length-append b (e ∷ c) in
      let three = length-append a (e ∷ c) in
      omega arith

-- ---- paths over a list of edges

module _ {V : Type 0} (edges : List (DirectedEdge V)) where
  members : (v w : V) (es : List (DirectedEdge V)) → IsPath (λ e. Contains edges e) v es w → (e : DirectedEdge V) → In es e → In edges e
  members v w [] p e i = absurd i
  members v w (f ∷ es) p e (inl q) = subst (λ (x : DirectedEdge V). In edges x) q (In-from_Contains edges f p.0)
  members v w (f ∷ es) p e (inr i) = members f.to w es p.2 e i

  -- for each path there is one with no more edges than there are, and of no greater cost
  pub short_path : (n : ℕ) (v w : V) (es : List (DirectedEdge V)) → length es ≤ n → IsPath (λ e. Contains edges e) v es w
      → (fs : List (DirectedEdge V)) × IsPath (λ e. Contains edges e) v fs w × (length fs ≤ length edges) × (path_cost fs ≤ path_cost es)
  short_path zero v w es h p = (es, p, omega arith, omega arith)
  short_path (suc n) v w es h p =
      ⊎_elim
      (λ twice. shorter twice (λ fs. short_path n v w fs))
      (λ short. (es, p, short, omega arith))
      (repeats_or_short edges es (members v w es p))
    where
      shorter : Repeats es → ((fs : List (DirectedEdge V)) → length fs ≤ n → IsPath (λ e. Contains edges e) v fs w
          → (gs : List (DirectedEdge V)) × IsPath (λ e. Contains edges e) v gs w × (length gs ≤ length edges) × (path_cost gs ≤ path_cost fs))
          → (fs : List (DirectedEdge V)) × IsPath (λ e. Contains edges e) v fs w × (length fs ≤ length edges) × (path_cost fs ≤ path_cost es)
      shorter (a, b, c, e, is) rest =
          let parts = cut (λ x. Contains edges x) v w a b c e (subst (λ (xs : List (DirectedEdge V)). IsPath (λ x. Contains edges x) v xs w) is p) in
          let less : length (a ++ (e ∷ c)) < length (a ++ (e ∷ (b ++ (e ∷ c)))) = length-cut (λ x. Contains edges x) a b c e in
          let costs = path_cost-cut (λ x. Contains edges x) a b c e in
          let size : length es ≡ length (a ++ (e ∷ (b ++ (e ∷ c)))) = ap (λ (xs : List (DirectedEdge V)). length xs) is in
          let price : path_cost es ≡ path_cost (a ++ (e ∷ (b ++ (e ∷ c)))) = ap (λ (xs : List (DirectedEdge V)). path_cost xs) is in
          let r = rest (a ++ (e ∷ c)) (omega arith) parts.0 in
          let low : path_cost r.0 ≤ path_cost (a ++ (e ∷ c)) = r.3 in
          (r.0, r.1, r.2, omega arith)

  -- the cost of two edges, one after the other, is not 0
  abbrev pub NothingFree : Type 0
  NothingFree = (e f : DirectedEdge V) → Contains edges e → Contains edges f → f.from ≡ e.to → 0 < e.cost + f.cost

  -- then a path of least cost has no more edges than there are
  pub least_is_short : NothingFree → (v w : V) (es : List (DirectedEdge V)) → IsPath (λ e. Contains edges e) v es w
      → NoPathBelow (λ e. Contains edges e) v w (path_cost es) → length es ≤ length edges
  least_is_short costly v w es p low =
      ⊎_elim (λ twice. absurd (never twice)) (λ short. short) (repeats_or_short edges es (members v w es p))
    where
      around : (b : List (DirectedEdge V)) (e : DirectedEdge V) → Contains edges e → IsPath (λ x. Contains edges x) e.to b e.from → 0 < path_cost b + e.cost
      around [] e h q = let two : 0 < e.cost + e.cost = costly e e h h (sym q) in omega arith
      around (f ∷ b) e h q = let two : 0 < e.cost + f.cost = costly e f h q.0 q.1 in omega arith

      never : Repeats es → ⊥
      never (a, b, c, e, is) =
          let parts = cut (λ x. Contains edges x) v w a b c e (subst (λ (xs : List (DirectedEdge V)). IsPath (λ x. Contains edges x) v xs w) is p) in
          let costs = path_cost-cut (λ x. Contains edges x) a b c e in
          let price : path_cost es ≡ path_cost (a ++ (e ∷ (b ++ (e ∷ c)))) = ap (λ (xs : List (DirectedEdge V)). path_cost xs) is in
          let some : 0 < path_cost b + e.cost = around b e parts.1 parts.2 in
          let least : path_cost es ≤ path_cost (a ++ (e ∷ c)) = low (a ++ (e ∷ c)) parts.0 in
          omega arith

-- ---- `paths_of`

module _ (edges : List (DirectedEdge Vertex)) where
  leads-from_path : (v w : Vertex) (es : List (DirectedEdge Vertex)) → IsPath (λ e. Contains edges e) v es w → leads v es w ≡ true
  unfolding leads
  leads-from_path v w [] p = is_same-from v w p
  leads-from_path v w (e ∷ es) p = and_from (is_same e.from v) (leads e.to es w) (is_same-from e.from v p.1) (leads-from_path e.to w es p.2)

  path-from_leads : (v w : Vertex) (es : List (DirectedEdge Vertex)) → ((e : DirectedEdge Vertex) → In es e → In edges e) → leads v es w ≡ true
      → IsPath (λ e. Contains edges e) v es w
  unfolding leads
  path-from_leads v w [] h l = same_from_is_same v w l
  path-from_leads v w (e ∷ es) h l =
      let parts = and_parts (is_same e.from v) (leads e.to es w) l in
      (Contains-from_In edges e (h e (inl refl)), same_from_is_same e.from v parts.0, path-from_leads e.to w es (λ x i. h x (inr i)) parts.1)

  pub In-paths_of : (v w : Vertex) (es : List (DirectedEdge Vertex)) → IsPath (λ e. Contains edges e) v es w → length es ≤ length edges
      → In (paths_of edges v w) es
  unfolding paths_of
  In-paths_of v w es p short = In-filter (λ fs. leads v fs w) (lists_within (length edges) edges) es
      (In-lists_within (length edges) edges es short (members edges v w es p)) (leads-from_path v w es p)

  pub paths_of-In : (v w : Vertex) (es : List (DirectedEdge Vertex)) → In (paths_of edges v w) es → IsPath (λ e. Contains edges e) v es w
  unfolding paths_of
  paths_of-In v w es i =
      let r = filter-In (λ fs. leads v fs w) (lists_within (length edges) edges) es i in
      path-from_leads v w es (lists_within-In (length edges) edges es r.0) r.1

  -- the distance, over all paths of any length
  pub IsDistance-distance_of : (v w : Vertex) → IsDistance (λ e. Contains edges e) v w (distance_of edges v w)
  unfolding distance_of
  IsDistance-distance_of v w = by_least (least nat_cmp costs) (least_is costs)
    where
      costs : List ℕ
      costs = map (λ es. path_cost es) (paths_of edges v w)

      by_least : (o : Option ℕ) → LeastIs costs o → IsDistance (λ e. Contains edges e) v w o
      by_least None none = λ es p.
          (let r = short_path edges (length es) v w es (omega arith) p in
          none (path_cost r.0) (In-map (λ fs. path_cost fs) (paths_of edges v w) r.0 (In-paths_of v w r.0 r.1 r.2)))
      by_least (Some d) (there, low) =
          let m = map-In (λ fs. path_cost fs) (paths_of edges v w) d there in (
            (m.0, paths_of-In v w m.0 m.1, m.2),
            λ es p.
                (let r = short_path edges (length es) v w es (omega arith) p in
                let one : d ≤ path_cost r.0 = low (path_cost r.0) (In-map (λ fs. path_cost fs) (paths_of edges v w) r.0 (In-paths_of v w r.0 r.1 r.2)) in
                let two : path_cost r.0 ≤ path_cost es = r.3 in
                omega arith),
          )

  -- so what is the distance over these edges is `distance_of`
  pub distance_of-is : (IsEdge : DirectedEdge Vertex → Type 0) → ((e : DirectedEdge Vertex) → IsEdge e → Contains edges e)
      → ((e : DirectedEdge Vertex) → Contains edges e → IsEdge e)
      → (v w : Vertex) (o : Option ℕ) → IsDistance IsEdge v w o → o ≡ distance_of edges v w
  distance_of-is IsEdge there back v w o h =
      IsDistance-same (λ e. Contains edges e) v w o (distance_of edges v w) (IsDistance-same_edges IsEdge (λ e. Contains edges e) there back v w o h)
      (IsDistance-distance_of v w)

  pub least_paths_of-In : (v w : Vertex) (es : List (DirectedEdge Vertex)) → In (least_paths_of edges v w) es
      → IsPath (λ e. Contains edges e) v es w × NoPathBelow (λ e. Contains edges e) v w (path_cost es)
  unfolding least_paths_of
  least_paths_of-In v w es i =
      let r = filter-In (λ es. list_all (λ fs. nat_le (path_cost es) (path_cost fs)) (paths_of edges v w)) (paths_of edges v w) es i in (
        paths_of-In v w es r.0,
        λ gs p.
            (let s = short_path edges (length gs) v w gs (omega arith) p in
            let one : path_cost es ≤ path_cost s.0 = leb-true (path_cost es) (path_cost s.0)
            (list_all-In (λ fs. nat_le (path_cost es) (path_cost fs)) (paths_of edges v w) r.1 s.0 (In-paths_of v w s.0 s.1 s.2)) in
            let two : path_cost s.0 ≤ path_cost gs = s.3 in
            omega arith),
      )

  pub In-least_paths_of : NothingFree edges → (v w : Vertex) (es : List (DirectedEdge Vertex)) → IsPath (λ e. Contains edges e) v es w
      → NoPathBelow (λ e. Contains edges e) v w (path_cost es) → In (least_paths_of edges v w) es
  unfolding least_paths_of
  In-least_paths_of costly v w es p low =
      In-filter (λ es. list_all (λ fs. nat_le (path_cost es) (path_cost fs)) (paths_of edges v w)) (paths_of edges v w) es
      (In-paths_of v w es p (least_is_short edges costly v w es p low))
      (In-list_all (λ fs. nat_le (path_cost es) (path_cost fs)) (paths_of edges v w)
      (λ gs i. le-leb (path_cost es) (path_cost gs) (low gs (paths_of-In v w gs i))))

-- two lists with the same members give the same distances
pub distance_of-same_members : (edges others : List (DirectedEdge Vertex)) → ((e : DirectedEdge Vertex) → Contains edges e → Contains others e)
    → ((e : DirectedEdge Vertex) → Contains others e → Contains edges e)
    → (v w : Vertex) → distance_of edges v w ≡ distance_of others v w
distance_of-same_members edges others there back v w = distance_of-is others (λ e. Contains edges e) there back v w (distance_of edges v w)
    (IsDistance-distance_of edges v w)
