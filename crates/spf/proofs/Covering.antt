-- Once the next candidate is settled, each edge out of a settled vertex still leads to one that is settled or queued.
use Rattle.std.proofs.Common.{◌≡◌, ℕ, ◌+◌, ◌≤◌, List, length, get_or, Option, None, Some, IsSome, refl, sym, ap, ◌∙◌, subst, arith, ◌⊎◌, inl, inr, ⊎_elim, ◌<◌}
use Rattle.std.specs.List.{Contains}
use Rattle.std.proofs.lemmas.Bool.{cases_eq, false≢true}
use Rattle.std.proofs.lemmas.List.{get_or-set_other}
use Rattle.area_graph.specs.Paths.{DirectedEdge}
use Rattle.area_graph.specs.Topology.{Topology, IsArc}
use Rattle.spf.specs.declared.queue.Candidate.{Candidate}
use Rattle.spf.specs.steps.Relaxation.{IsAtMost}
use Rattle.spf.proofs.Keys.{distance_from_key}
use Rattle.spf.specs.steps.Search.{IsQueued}
use Rattle.spf.proofs.Taking.{queue_cases, settled_below}
use Rattle.spf.proofs.Settling.{Settles, settled_at, stays, next_at, settled_cases, next_small, first_key}

module _ (t : Topology) (root : ℕ) (ds : List (Option ℕ)) (order : List ℕ) (queue rest pushed : List Candidate)
    (next : Candidate) (s : Settles t root ds order queue rest pushed next) where
  -- a settled vertex is no farther than the next one
  below_next_distance : (i d : ℕ) → get_or ds i None ≡ Some d → d ≤ next.distance
  below_next_distance = settled_below t s.shape root ds order queue rest next s.before s.taken

  cases : (c : Candidate) → Contains queue c → (next ≡ c) ⊎ Contains rest c
  cases = queue_cases t s.shape root ds order queue rest next s.before s.taken

  module _ (e : DirectedEdge ℕ) (d : ℕ) where
    low_where_settled : (o : Option ℕ) → get_or (settled_at ds next) e.to None ≡ o → IsSome o → d ≡ next.distance → IsAtMost o (d + e.cost)
    low_where_settled None at some same = absurd (false≢true some)
    low_where_settled (Some x) at some same =
        ⊎_elim
        (λ p. (let x_is : x ≡ next.distance = p.1 in omega arith))
        (λ there. (let low : x ≤ next.distance = below_next_distance e.to x there in omega arith))
        (settled_cases t root ds order queue rest pushed next s e.to x at)

    -- an edge out of the next vertex
    from_next : IsArc t e → e.from ≡ next.index → d ≡ next.distance
        → IsAtMost (get_or (settled_at ds next) e.to None) (d + e.cost) ⊎ IsQueued pushed e.to (d + e.cost)
    from_next arc from same =
        ⊎_elim
        (λ some. inl (low_where_settled (get_or (settled_at ds next) e.to None) refl some same))
        (λ there. inr (there.0, there.1, there.2, (let low : there.0.distance ≤ next.distance + e.cost = there.3 in let le : there.0.distance ≤ d + e.cost = omega arith in le)))
        (s.pushes.all e arc from)

    low_still : (o : Option ℕ) → get_or ds e.to None ≡ o → IsAtMost o (d + e.cost) → IsAtMost (get_or (settled_at ds next) e.to None) (d + e.cost)
    low_still None at low = absurd low
    low_still (Some x) at low = subst (λ (o : Option ℕ). IsAtMost o (d + e.cost)) (sym (stays t root ds order queue rest pushed next s e.to x at)) low

    low_now : next.index ≡ e.to → next.distance ≤ d + e.cost → IsAtMost (get_or (settled_at ds next) e.to None) (d + e.cost)
    low_now same le = subst (λ (n : ℕ). IsAtMost (get_or (settled_at ds next) n None) (d + e.cost)) same
        (subst (λ (o : Option ℕ). IsAtMost o (d + e.cost)) (sym (next_at t root ds order queue rest pushed next s)) le)

    -- an edge out of a vertex that was settled before
    from_settled : IsAtMost (get_or ds e.to None) (d + e.cost) ⊎ IsQueued queue e.to (d + e.cost)
        → IsAtMost (get_or (settled_at ds next) e.to None) (d + e.cost) ⊎ IsQueued pushed e.to (d + e.cost)
    from_settled old =
        ⊎_elim
        (λ low. inl (low_still (get_or ds e.to None) refl low))
        (λ q. ⊎_elim
        (λ same. inl (low_now (ap (λ (c : Candidate). c.index) same ∙ q.2) (subst (λ (c : Candidate). c.distance ≤ d + e.cost) (sym same) q.3)))
        (λ there. inr (q.0, s.pushes.kept q.0 there, q.2, q.3))
        (cases q.0 q.1))
        old

    pub covered_next : IsArc t e → get_or (settled_at ds next) e.from None ≡ Some d
        → IsAtMost (get_or (settled_at ds next) e.to None) (d + e.cost) ⊎ IsQueued pushed e.to (d + e.cost)
    covered_next arc at =
        ⊎_elim
        (λ p. from_next arc p.0 p.1)
        (λ there. from_settled (s.before.covered e d arc there))
        (settled_cases t root ds order queue rest pushed next s e.from d at)

  -- where the next vertex is the root, it is at 0
  root_now : root ≡ next.index → IsQueued queue root 0 → get_or (settled_at ds next) root None ≡ Some 0
  root_now same q =
      let low : next.distance ≤ 0 = ⊎_elim
      (λ is. subst (λ (c : Candidate). c.distance ≤ 0) (sym is) q.3)
      (λ there. (let few : length t.vertices ≤ 8192 = s.shape.few in
      let small = next_small t root ds order queue rest pushed next s in
      let within : q.0.index < length t.vertices = (s.before.candidates q.0 q.1).within in
      let le : next.distance ≤ q.0.distance = distance_from_key next.distance q.0.distance next.index q.0.index next.is_router
      q.0.is_router small (omega arith) (first_key t root ds order queue rest pushed next s q.0 there) in
      let at_zero : q.0.distance ≤ 0 = q.3 in omega arith))
      (cases q.0 q.1) in
      let is_zero : next.distance ≡ 0 = omega arith in
      subst (λ (n : ℕ). get_or (settled_at ds next) n None ≡ Some 0) (sym same)
      (next_at t root ds order queue rest pushed next s ∙ ap (λ (n : ℕ). Some n) is_zero)

  root_waits : (root ≡ next.index → ⊥) → get_or ds root None ≡ None → IsQueued queue root 0
      → (get_or (settled_at ds next) root None ≡ None) × IsQueued pushed root 0
  root_waits other none q = (
    get_or-set_other ds next.index root (Some next.distance) None other ∙ none,
    (q.0, s.pushes.kept q.0 (⊎_elim (λ is. absurd (other (sym (ap (λ (c : Candidate). c.index) is ∙ q.2)))) (λ there. there) (cases q.0 q.1)), q.2, q.3),
  )

  pub root_next : (get_or (settled_at ds next) root None ≡ Some 0) ⊎ ((get_or (settled_at ds next) root None ≡ None) × IsQueued pushed root 0)
  root_next =
      ⊎_elim
      (λ done. inl (stays t root ds order queue rest pushed next s root 0 done))
      (λ q. ⊎_elim (λ same. inl (root_now same q.1)) (λ other. inr (root_waits other q.0 q.1)) (cases_eq root next.index))
      s.before.root_covered
