-- Distances that no edge lowers are the least of all paths.
use Rattle.std.proofs.Common.{◌≡◌, ℕ, ◌+◌, ◌≤◌, List, [], ◌∷◌, get_or, Option, None, Some, refl, sym, subst, arith}
use Rattle.area_graph.specs.declared.edge.Edge.{Edge}
use Rattle.area_graph.specs.Paths.{DirectedEdge, path_cost, IsPath, IsDistance}
use Rattle.area_graph.specs.Topology.{Topology, IsArc}
use Rattle.spf.specs.steps.Relaxation.{IsAtMost, Sound, Closed}

-- an edge of a row, with its start
abbrev pub arc_from : ℕ → Edge → DirectedEdge ℕ
arc_from from o = record { from = from; to = o.to; cost = o.cost; link_data = o.link_data }

IsAtMost-le : (o : Option ℕ) (c d : ℕ) → c ≤ d → IsAtMost o c → IsAtMost o d
IsAtMost-le None c d le h = h
IsAtMost-le (Some x) c d le h = omega arith

-- one edge, and then the rest of a path
IsAtMost-next : (t : Topology) (ds : List (Option ℕ)) (es : List (DirectedEdge ℕ)) (e : DirectedEdge ℕ) (w d : ℕ)
    → IsAtMost (get_or ds e.to None) (d + e.cost) →
    ((x : ℕ) → get_or ds e.to None ≡ Some x → IsAtMost (get_or ds w None) (x + path_cost es)) → IsAtMost (get_or ds w None) (d + (e.cost + path_cost es))
IsAtMost-next t ds es e w d h rest = next (get_or ds e.to None) refl h
  where
    next : (o : Option ℕ) → get_or ds e.to None ≡ o → IsAtMost o (d + e.cost) → IsAtMost (get_or ds w None) (d + (e.cost + path_cost es))
    next None is h = absurd h
    next (Some x) is h = IsAtMost-le (get_or ds w None) (x + path_cost es) (d + (e.cost + path_cost es)) (omega arith) (rest x is)

-- where no edge leads to a less distance, no path does
pub IsAtMost-path : (t : Topology) (ds : List (Option ℕ)) → Closed t ds → (es : List (DirectedEdge ℕ)) (v w d : ℕ)
    → IsPath (IsArc t) v es w → get_or ds v None ≡ Some d → IsAtMost (get_or ds w None) (d + path_cost es)
IsAtMost-path t ds closed [] v w d p at = subst (λ (o : Option ℕ). IsAtMost o (d + 0))
    (sym (subst (λ (n : ℕ). get_or ds n None ≡ Some d) p at)) (let le : d ≤ d + 0 = omega arith in le)
IsAtMost-path t ds closed (e ∷ es) v w d p at =
    IsAtMost-next t ds es e w d (closed e d p.0 (subst (λ (n : ℕ). get_or ds n None ≡ Some d) (sym p.1) at))
    (λ x is. IsAtMost-path t ds closed es e.to w x p.2 is)

-- the distances that no edge lowers are those of the definition
pub IsDistance-closed : (t : Topology) (root : ℕ) (ds : List (Option ℕ)) → Sound t root ds
    → Closed t ds → (i : ℕ) → IsDistance (IsArc t) root i (get_or ds i None)
IsDistance-closed t root ds s closed i = at_some (get_or ds i None) refl
  where
    at_some : (o : Option ℕ) → get_or ds i None ≡ o → IsDistance (IsArc t) root i o
    at_some None is = λ es p. subst (λ (o : Option ℕ). IsAtMost o (0 + path_cost es)) is (IsAtMost-path t ds closed es root i 0 p s.root_at)
    at_some (Some d) is = (
      s.paths i d is,
      λ es p.
          let le : d ≤ 0 + path_cost es = subst (λ (o : Option ℕ). IsAtMost o (0 + path_cost es)) is
          (IsAtMost-path t ds closed es root i 0 p s.root_at) in omega arith,
    )
