-- Lemmas on paths.
use Rattle.std.proofs.Common.{◌≡◌, ℕ, ◌+◌, ◌≤◌, List, [], ◌∷◌, ◌++◌, Option, None, Some, refl, sym, subst, arith, zero-add, ap}
use Rattle.area_graph.specs.Paths.{DirectedEdge, path_cost, IsPath, HasPathOfCost, IsLeastCost, IsDistance}

-- the costs of two paths, one after the other
pub path_cost-append : {V : Type 0} (es fs : List (DirectedEdge V)) → path_cost (es ++ fs) ≡ path_cost es + path_cost fs
path_cost-append [] fs = sym (zero-add (path_cost fs))
path_cost-append (e ∷ es) fs = let ih = path_cost-append es fs in omega arith

module _ {V : Type 0} (IsEdge : DirectedEdge V → Type 0) where
  -- two paths, one after the other
  pub IsPath-append : (u v w : V) (es fs : List (DirectedEdge V)) → IsPath IsEdge u es v → IsPath IsEdge v fs w → IsPath IsEdge u (es ++ fs) w
  IsPath-append u v w [] fs p q = subst (λ (x : V). IsPath IsEdge x fs w) (sym p) q
  IsPath-append u v w (e ∷ es) fs p q = (p.0, p.1, IsPath-append e.to v w es fs p.2 q)

  -- a path and one more edge
  pub IsPath-push : (u : V) (e : DirectedEdge V) (es : List (DirectedEdge V)) → IsPath IsEdge u es e.from → IsEdge e → IsPath IsEdge u (es ++ e ∷ []) e.to
  IsPath-push u e es p h = IsPath-append u e.from e.to es (e ∷ []) p (h, refl, refl)

  pub HasPathOfCost-push : (u : V) (e : DirectedEdge V) (d : ℕ) → HasPathOfCost IsEdge u e.from d → IsEdge e → HasPathOfCost IsEdge u e.to (d + e.cost)
  HasPathOfCost-push u e d (es, p, c) h = (es ++ e ∷ [], IsPath-push u e es p h, (let k = path_cost-append es (e ∷ []) in omega arith))

  -- the least cost is one number
  pub IsLeastCost-same : (v w : V) (c d : ℕ) → IsLeastCost IsEdge v w c → IsLeastCost IsEdge v w d → c ≡ d
  IsLeastCost-same v w c d (p, low) (q, below) =
      let one : c ≤ path_cost q.0 = low q.0 q.1 in
      let two : d ≤ path_cost p.0 = below p.0 p.1 in
      let three : path_cost p.0 ≡ c = p.2 in
      let four : path_cost q.0 ≡ d = q.2 in
      omega arith

  -- so the distance is unique
  pub IsDistance-same : (v w : V) (c d : Option ℕ) → IsDistance IsEdge v w c → IsDistance IsEdge v w d → c ≡ d
  IsDistance-same v w None None p q = refl
  IsDistance-same v w None (Some d) p q = absurd (p q.0.0 q.0.1)
  IsDistance-same v w (Some c) None p q = absurd (q p.0.0 p.0.1)
  IsDistance-same v w (Some c) (Some d) p q = ap (λ (n : ℕ). Some n) (IsLeastCost-same v w c d p q)

module _ {V : Type 0} (P Q : DirectedEdge V → Type 0) (there : (e : DirectedEdge V) → P e → Q e) where
  -- a path over more edges
  pub IsPath-weaker : (v w : V) (es : List (DirectedEdge V)) → IsPath P v es w → IsPath Q v es w
  IsPath-weaker v w [] p = p
  IsPath-weaker v w (e ∷ es) p = (there e p.0, p.1, IsPath-weaker e.to w es p.2)

  IsPath-back : ((e : DirectedEdge V) → Q e → P e) → (v w : V) (es : List (DirectedEdge V)) → IsPath Q v es w → IsPath P v es w
  IsPath-back back v w [] q = q
  IsPath-back back v w (e ∷ es) q = (back e q.0, q.1, IsPath-back back e.to w es q.2)

  -- over the same edges the distance is the same
  pub IsDistance-same_edges : ((e : DirectedEdge V) → Q e → P e) → (v w : V) (o : Option ℕ) → IsDistance P v w o → IsDistance Q v w o
  IsDistance-same_edges back v w None none = λ es q. none es (IsPath-back back v w es q)
  IsDistance-same_edges back v w (Some d) ((es, p, c), least) = ((es, IsPath-weaker v w es p, c), λ fs q. least fs (IsPath-back back v w fs q))
