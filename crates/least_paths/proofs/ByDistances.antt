-- Edges on paths of least cost, by distances.
use Rattle.std.proofs.Common.{◌≡◌, ℕ, ◌+◌, ◌≤◌, true, List, ◌∷◌, ◌++◌, Option, None, Some, refl, ap, ◌∙◌, subst, arith, inl}
use Rattle.std.specs.List.{Contains}
use Rattle.std.proofs.lemmas.Bool.{eq-eqb, eqb-true, false≢true}
use Rattle.area_graph.specs.AllPaths.{distance_of}
use Rattle.area_graph.specs.declared.vertex.Vertex.{Vertex}
use Rattle.area_graph.specs.Paths.{DirectedEdge, path_cost, IsPath, NoPathBelow, IsDistance, IsLeastCost}
use Rattle.area_graph.proofs.AllPathsLemmas.{IsDistance-distance_of}
use Rattle.area_graph.proofs.MemberLemmas.{In-from_Contains, Contains-from_In, In-list_any, In-right, list_any-In}
use Rattle.area_graph.proofs.PathLemmas.{IsDistance-same, IsPath-append, path_cost-append}
use Rattle.least_paths.specs.LeastPaths.{IsOnLeastPath, adds_up, is_on_way, is_on_way_to}
use Rattle.least_paths.proofs.Parts.{front_least, splits}

module _ (edges : List (DirectedEdge Vertex)) (root : Vertex) (targets : List Vertex) (e : DirectedEdge Vertex) (there : Contains edges e) where
  -- a path by way of the edge, from three distances
  whole_path : (target : Vertex) → Contains targets target → (near rest whole : Option ℕ) → IsDistance (λ f. Contains edges f) root e.from near
      → IsDistance (λ f. Contains edges f) e.to target rest → IsDistance (λ f. Contains edges f) root target whole
      → adds_up near e.cost rest whole ≡ true → IsOnLeastPath (λ f. Contains edges f) root targets e
  whole_path target one None rest whole n r w h = absurd (false≢true h)
  whole_path target one (Some d) None whole n r w h = absurd (false≢true h)
  whole_path target one (Some d) (Some c) None n r w h = absurd (false≢true h)
  whole_path target one (Some d) (Some c) (Some k) ((p, path, at), low) ((q, after, costs), least) w h =
      let sum : (d + e.cost) + c ≡ k = eqb-true ((d + e.cost) + c) k h in
      let parts = path_cost-append p (e ∷ q) in
      let cost : k ≡ path_cost (p ++ (e ∷ q)) = omega arith in
      record {
        target = target;
        is_target = one;
        es = p ++ (e ∷ q);
        least = record {
          path = IsPath-append (λ f. Contains edges f) root e.from target p (e ∷ q) path (there, refl, after);
          least = subst (λ (n : ℕ). NoPathBelow (λ f. Contains edges f) root target n) cost w.1;
        };
        on = Contains-from_In (p ++ (e ∷ q)) e (In-right p (e ∷ q) e (inl refl));
      }

  pub path-from_distances : is_on_way edges root targets e ≡ true → IsOnLeastPath (λ f. Contains edges f) root targets e
  path-from_distances h =
      let f = list_any-In (is_on_way_to edges root e) targets h in
      whole_path f.0 (Contains-from_In targets f.0 f.1) (distance_of edges root e.from) (distance_of edges e.to f.0) (distance_of edges root f.0)
      (IsDistance-distance_of edges root e.from) (IsDistance-distance_of edges e.to f.0) (IsDistance-distance_of edges root f.0) f.2

  -- what is the least cost is the distance
  distance_is : (v w : Vertex) (d : ℕ) → IsLeastCost (λ f. Contains edges f) v w d → distance_of edges v w ≡ Some d
  distance_is v w d least = IsDistance-same (λ f. Contains edges f) v w (distance_of edges v w) (Some d) (IsDistance-distance_of edges v w) least

  pub distances-from_path : IsOnLeastPath (λ f. Contains edges f) root targets e → is_on_way edges root targets e ≡ true
  distances-from_path h =
      let s = splits (λ f. Contains edges f) root h.target h.es e h.least.path (In-from_Contains h.es e h.on) in
      let costs : path_cost h.es ≡ path_cost s.before + (e.cost + path_cost s.after) = s.costs in
      let low : NoPathBelow (λ f. Contains edges f) root h.target (path_cost s.before + (e.cost + path_cost s.after)) =
      subst (λ (n : ℕ). NoPathBelow (λ f. Contains edges f) root h.target n) costs h.least.least in
      let onward : IsPath (λ f. Contains edges f) e.from (e ∷ s.after) h.target = (s.edge, refl, s.from_end) in
      let near : distance_of edges root e.from ≡ Some (path_cost s.before) =
      distance_is root e.from (path_cost s.before)
      (front_least (λ f. Contains edges f) root e.from h.target s.before (e ∷ s.after) s.to_start onward low) in
      let whole : distance_of edges root h.target ≡ Some (path_cost h.es) =
      distance_is root h.target (path_cost h.es) ((h.es, h.least.path, refl), h.least.least) in
      let rest : distance_of edges e.to h.target ≡ Some (path_cost s.after) =
      distance_is e.to h.target (path_cost s.after) ((s.after, s.from_end, refl), no_shorter s.before s.after s.to_start s.edge low) in
      let sum : (path_cost s.before + e.cost) + path_cost s.after ≡ path_cost h.es = omega arith in
      let found : is_on_way_to edges root e h.target ≡ true =
      ap (λ (o : Option ℕ). adds_up o e.cost (distance_of edges e.to h.target) (distance_of edges root h.target)) near
      ∙ ap (λ (o : Option ℕ). adds_up (Some (path_cost s.before)) e.cost o (distance_of edges root h.target)) rest
      ∙ ap (λ (o : Option ℕ). adds_up (Some (path_cost s.before)) e.cost (Some (path_cost s.after)) o) whole
      ∙ eq-eqb ((path_cost s.before + e.cost) + path_cost s.after) (path_cost h.es) sum in
      In-list_any (is_on_way_to edges root e) targets h.target (In-from_Contains targets h.target h.is_target) found
    where
      -- no path from the edge's end is shorter
      no_shorter : (before after : List (DirectedEdge Vertex)) → IsPath (λ f. Contains edges f) root before e.from → Contains edges e
          → NoPathBelow (λ f. Contains edges f) root h.target (path_cost before + (e.cost + path_cost after))
          → NoPathBelow (λ f. Contains edges f) e.to h.target (path_cost after)
      no_shorter before after p edge low = λ gs q.
          let longer : IsPath (λ f. Contains edges f) root (before ++ (e ∷ gs)) h.target =
          IsPath-append (λ f. Contains edges f) root e.from h.target before (e ∷ gs) p (edge, refl, q) in
          let least : path_cost before + (e.cost + path_cost after) ≤ path_cost (before ++ (e ∷ gs)) = low (before ++ (e ∷ gs)) longer in
          let parts = path_cost-append before (e ∷ gs) in
          omega arith
