-- Paths of least cost, edge by edge: what stands before an edge and after it.
use Rattle.std.proofs.Common.{◌≡◌, ℕ, ◌+◌, ◌≤◌, List, [], ◌∷◌, ◌++◌, refl, sym, subst, arith, ◌⊎◌, inl, inr}
use Rattle.std.specs.List.{Contains}
use Rattle.area_graph.specs.declared.vertex.Vertex.{Vertex}
use Rattle.area_graph.specs.Paths.{DirectedEdge, path_cost, IsPath, NoPathBelow, IsLeastCost}
use Rattle.area_graph.specs.Topology.{Topology, IsEdge}
use Rattle.area_graph.proofs.MemberLemmas.{In, In-from_Contains, Contains-from_In, In-right}
use Rattle.area_graph.proofs.PathLemmas.{IsLeastCost-same, IsPath-append, IsPath-push, path_cost-append}
use Rattle.least_paths.specs.LeastPaths.{IsOnLeastPath}
use Rattle.least_paths.specs.steps.Marks.{GoesOn}

module _ (IsEdge : DirectedEdge Vertex → Type 0) where
  -- the front of a path of least cost is one
  pub front_least : (u v w : Vertex) (es fs : List (DirectedEdge Vertex)) → IsPath IsEdge u es v → IsPath IsEdge v fs w
      → NoPathBelow IsEdge u w (path_cost es + path_cost fs) → IsLeastCost IsEdge u v (path_cost es)
  front_least u v w es fs p q low = (
    (es, p, refl),
    λ gs r.
        (let whole : path_cost es + path_cost fs ≤ path_cost (gs ++ fs) = low (gs ++ fs) (IsPath-append IsEdge u v w gs fs r q) in
        let parts = path_cost-append gs fs in
        omega arith),
  )

  -- what stands before an edge of a path, and after it
  pub record Splits (u w : Vertex) (cost : ℕ) (e : DirectedEdge Vertex) : Type 0 where
    pub before : List (DirectedEdge Vertex)
    pub after : List (DirectedEdge Vertex)
    pub to_start : IsPath IsEdge u before e.from
    pub edge : IsEdge e
    pub from_end : IsPath IsEdge e.to after w
    pub costs : cost ≡ path_cost before + (e.cost + path_cost after)

  pub splits : (u w : Vertex) (es : List (DirectedEdge Vertex)) (e : DirectedEdge Vertex) → IsPath IsEdge u es w → In es e → Splits u w (path_cost es) e
  splits u w [] e p i = absurd i
  splits u w (f ∷ es) e p (inl q) =
      let first : Splits u w (f.cost + path_cost es) f = record {
        before = [];
        after = es;
        to_start = sym p.1;
        edge = p.0;
        from_end = p.2;
        costs = omega arith;
      } in
      subst (λ (x : DirectedEdge Vertex). Splits u w (f.cost + path_cost es) x) q first
  splits u w (f ∷ es) e p (inr i) =
      let s = splits f.to w es e p.2 i in record {
        before = f ∷ s.before;
        after = s.after;
        to_start = (p.0, p.1, s.to_start);
        edge = s.edge;
        from_end = s.from_end;
        costs = (let c : path_cost es ≡ path_cost s.before + (e.cost + path_cost s.after) = s.costs in omega arith);
      }

  -- an edge of a path of least cost leads to its end at the least cost
  end_least : (root : Vertex) (e : DirectedEdge Vertex) (d : ℕ) → IsLeastCost IsEdge root e.from d → IsEdge e → (target : Vertex)
      → (after : List (DirectedEdge Vertex)) → IsPath IsEdge e.to after target
      → NoPathBelow IsEdge root target (d + (e.cost + path_cost after)) → IsLeastCost IsEdge root e.to (d + e.cost)
  end_least root e d ((a, p, c), low) edge target after q least =
      let longer : IsPath IsEdge root (a ++ e ∷ []) e.to = IsPath-push IsEdge root e a p edge in
      let cost : path_cost (a ++ e ∷ []) ≡ d + e.cost = (let k = path_cost-append a (e ∷ []) in omega arith) in
      let whole : d + (e.cost + path_cost after) ≡ path_cost (a ++ e ∷ []) + path_cost after = omega arith in
      subst (λ (n : ℕ). IsLeastCost IsEdge root e.to n) cost
      (front_least root e.to target (a ++ e ∷ []) after longer q (subst (λ (n : ℕ). NoPathBelow IsEdge root target n) whole least))

module _ (t : Topology) (root : Vertex) (targets : List Vertex) where
  -- an edge between two distances, after which a path of least cost goes on
  pub record Leads (e : DirectedEdge Vertex) : Type 0 where
    pub distance : ℕ
    pub edge : IsEdge t e
    pub start : IsLeastCost (IsEdge t) root e.from distance
    pub end : IsLeastCost (IsEdge t) root e.to (distance + e.cost)
    pub on : GoesOn t root targets e.to

  same_end : (e : DirectedEdge Vertex) (l : Leads e) → l.on.distance ≡ l.distance + e.cost
  same_end e l = IsLeastCost-same (IsEdge t) root e.to l.on.distance (l.distance + e.cost) l.on.near l.end

  pub Leads-from_path : (e : DirectedEdge Vertex) → IsOnLeastPath (IsEdge t) root targets e → Leads e
  Leads-from_path e h =
      let s = splits (IsEdge t) root h.target h.es e h.least.path (In-from_Contains h.es e h.on) in
      let costs : path_cost h.es ≡ path_cost s.before + (e.cost + path_cost s.after) = s.costs in
      let low : NoPathBelow (IsEdge t) root h.target (path_cost s.before + (e.cost + path_cost s.after)) =
      subst (λ (n : ℕ). NoPathBelow (IsEdge t) root h.target n) costs h.least.least in
      let on_end : IsPath (IsEdge t) e.from (e ∷ s.after) h.target = (s.edge, refl, s.from_end) in
      let start : IsLeastCost (IsEdge t) root e.from (path_cost s.before) =
      front_least (IsEdge t) root e.from h.target s.before (e ∷ s.after) s.to_start on_end low in
      let near : IsLeastCost (IsEdge t) root e.to (path_cost s.before + e.cost) =
      end_least (IsEdge t) root e (path_cost s.before) start s.edge h.target s.after s.from_end low in
      let sum : path_cost s.before + (e.cost + path_cost s.after) ≡ (path_cost s.before + e.cost) + path_cost s.after = omega arith in
      let all : path_cost h.es ≡ (path_cost s.before + e.cost) + path_cost s.after = omega arith in
      record {
        distance = path_cost s.before;
        edge = s.edge;
        start = start;
        end = near;
        on = record {
          target = h.target;
          is_target = h.is_target;
          rest = s.after;
          path = s.from_end;
          distance = path_cost s.before + e.cost;
          near = near;
          whole = ((h.es, h.least.path, all), subst (λ (n : ℕ). NoPathBelow (IsEdge t) root h.target n) sum low);
        };
      }

  pub path-from_Leads : (e : DirectedEdge Vertex) → Leads e → IsOnLeastPath (IsEdge t) root targets e
  path-from_Leads e l =
      let before = l.start.0 in
      let es : List (DirectedEdge Vertex) = before.0 ++ (e ∷ l.on.rest) in
      let same : l.on.distance ≡ l.distance + e.cost = same_end e l in
      let there : path_cost before.0 ≡ l.distance = before.2 in
      let parts = path_cost-append before.0 (e ∷ l.on.rest) in
      let costs : l.on.distance + path_cost l.on.rest ≡ path_cost (before.0 ++ (e ∷ l.on.rest)) = omega arith in
      record {
        target = l.on.target;
        is_target = l.on.is_target;
        es = es;
        least = record {
          path = IsPath-append (IsEdge t) root e.from l.on.target before.0 (e ∷ l.on.rest) before.1 (l.edge, refl, l.on.path);
          least = subst (λ (n : ℕ). NoPathBelow (IsEdge t) root l.on.target n) costs l.on.whole.1;
        };
        on = Contains-from_In es e (In-right before.0 (e ∷ l.on.rest) e (inl refl));
      }

  -- a path of least cost goes on from a target
  pub GoesOn-target : (v : Vertex) (d : ℕ) → Contains targets v → IsLeastCost (IsEdge t) root v d → GoesOn t root targets v
  GoesOn-target v d there near =
      let same : d ≡ d + 0 = omega arith in
      record {
        target = v;
        is_target = there;
        rest = [];
        path = refl;
        distance = d;
        near = near;
        whole = subst (λ (n : ℕ). IsLeastCost (IsEdge t) root v n) same near;
      }

  -- and from the start of such an edge
  pub GoesOn-edge : (e : DirectedEdge Vertex) → Leads e → GoesOn t root targets e.from
  GoesOn-edge e l =
      let same : l.on.distance ≡ l.distance + e.cost = same_end e l in
      let sum : l.on.distance + path_cost l.on.rest ≡ l.distance + (e.cost + path_cost l.on.rest) = omega arith in
      record {
        target = l.on.target;
        is_target = l.on.is_target;
        rest = e ∷ l.on.rest;
        path = (l.edge, refl, l.on.path);
        distance = l.distance;
        near = l.start;
        whole = subst (λ (n : ℕ). IsLeastCost (IsEdge t) root l.on.target n) sum l.on.whole;
      }

  -- and from nothing else
  pub GoesOn-cases : (v : Vertex) → GoesOn t root targets v → Contains targets v ⊎ ((e : DirectedEdge Vertex) × (e.from ≡ v) × Leads e)
  GoesOn-cases v g = by g.rest g.path g.whole
    where
      by : (rest : List (DirectedEdge Vertex)) → IsPath (IsEdge t) v rest g.target
          → IsLeastCost (IsEdge t) root g.target (g.distance + path_cost rest)
          → Contains targets v ⊎ ((e : DirectedEdge Vertex) × (e.from ≡ v) × Leads e)
      by [] p whole = inl (subst (λ (x : Vertex). Contains targets x) (sym p) g.is_target)
      by (e ∷ es) p whole =
          let start : IsLeastCost (IsEdge t) root e.from g.distance =
          subst (λ (x : Vertex). IsLeastCost (IsEdge t) root x g.distance) (sym p.1) g.near in
          let near : IsLeastCost (IsEdge t) root e.to (g.distance + e.cost) =
          end_least (IsEdge t) root e g.distance start p.0 g.target es p.2 whole.1 in
          let sum : g.distance + (e.cost + path_cost es) ≡ (g.distance + e.cost) + path_cost es = omega arith in
          let leads : Leads e = record {
            distance = g.distance;
            edge = p.0;
            start = start;
            end = near;
            on = record {
              target = g.target;
              is_target = g.is_target;
              rest = es;
              path = p.2;
              distance = g.distance + e.cost;
              near = near;
              whole = subst (λ (n : ℕ). IsLeastCost (IsEdge t) root g.target n) sum whole;
            };
          } in
          inr (e, p.1, leads)
