-- A candidate is taken from the queue, and dropped where its vertex is settled.
use Rattle.std.proofs.Common.{◌≡◌, ℕ, ◌+◌, ◌<◌, ◌≤◌, ◌^◌, List, ◌∷◌, length, get_or, set, Option, None, Some, is_some, cond, sym, ap, ◌∙◌, subst}
use Rattle.std.proofs.Common.{arith, ◌⊎◌, inl, inr, ⊎_elim}
use Rattle.std.specs.List.{Contains, sum_by}
use Rattle.std.specs.List.Sorted.{IsPermutation}
use Rattle.std.proofs.lemmas.List.Sorted.{Contains-permutation, IsPermutation-sym, length_permutation}
use Rattle.std.proofs.lemmas.List.Sums.{sum_by-set}
use Rattle.area_graph.specs.Topology.{Topology, IsTopology}
use Rattle.spf.specs.declared.queue.Candidate.{Candidate}
use Rattle.spf.specs.steps.Relaxation.{IsAtMost}
use Rattle.spf.specs.Candidates.{is_router_at}
use Rattle.spf.proofs.Keys.{distance_from_key}
use Rattle.spf.proofs.Pushing.{Contains-cons_cases, Contains-head, Contains-tail}
use Rattle.spf.proofs.Reached.{within_some}
use Rattle.spf.proofs.Searching.{IsCandidate, Searching}

-- a number that falls with each candidate that is taken
abbrev pub work : List (Option ℕ) → List Candidate → ℕ
work ds queue = sum_by (λ (o : Option ℕ). cond (is_some o) 0 (2 ^ 64)) ds + length queue

pub work-settle : (ds : List (Option ℕ)) (i d : ℕ) (queue rest queue' : List Candidate) (next : Candidate) → i < length ds
    → get_or ds i None ≡ None → IsPermutation queue (next ∷ rest) → length queue' < length rest + 2 ^ 64 → work (set ds i (Some d)) queue' < work ds queue
work-settle ds i d queue rest queue' next within fresh taken more =
    let longer : length (next ∷ rest) ≡ length queue = length_permutation queue (next ∷ rest) taken in
    let e : sum_by (λ (o : Option ℕ). cond (is_some o) 0 (2 ^ 64)) (set ds i (Some d)) + cond (is_some (get_or ds i None)) 0
    (2 ^ 64) ≡ sum_by (λ (o : Option ℕ). cond (is_some o) 0 (2 ^ 64)) ds + 0 =
    sum_by-set (λ (o : Option ℕ). cond (is_some o) 0 (2 ^ 64)) ds i (Some d) None within in
    let e' : sum_by (λ (o : Option ℕ). cond (is_some o) 0 (2 ^ 64)) (set ds i (Some d)) + 2 ^ 64 ≡ sum_by
    (λ (o : Option ℕ). cond (is_some o) 0 (2 ^ 64)) ds + 0 =
    subst (λ (o : Option ℕ). sum_by (λ (o : Option ℕ). cond (is_some o) 0 (2 ^ 64)) (set ds i (Some d)) + cond
    (is_some o) 0 (2 ^ 64) ≡ sum_by (λ (o : Option ℕ). cond (is_some o) 0 (2 ^ 64)) ds + 0) fresh e in
    omega arith

-- the candidate that is taken is one
pub next_candidate : {t : Topology} {root : ℕ} {ds : List (Option ℕ)} {order : List ℕ} {queue : List Candidate}
    (next : Candidate) (rest : List Candidate) → Searching t root ds order queue → IsPermutation queue (next ∷ rest) → IsCandidate t root ds next
next_candidate {t} {root} {ds} {order} {queue} next rest s taken =
    s.candidates next (Contains-permutation (next ∷ rest) queue next (IsPermutation-sym queue (next ∷ rest) taken) (Contains-head next rest))

module _ (t : Topology) (shape : IsTopology t) (root : ℕ) (ds : List (Option ℕ)) (order : List ℕ) (queue rest : List Candidate)
    (next : Candidate) (s : Searching t root ds order queue) (taken : IsPermutation queue (next ∷ rest)) where
  -- a candidate that is left was there
  pub in_queue : (c : Candidate) → Contains rest c → Contains queue c
  in_queue c h = Contains-permutation (next ∷ rest) queue c (IsPermutation-sym queue (next ∷ rest) taken) (Contains-tail next rest c h)

  -- the candidate that was taken
  pub next_in_queue : Contains queue next
  next_in_queue = Contains-permutation (next ∷ rest) queue next (IsPermutation-sym queue (next ∷ rest) taken) (Contains-head next rest)

  pub queue_cases : (c : Candidate) → Contains queue c → (next ≡ c) ⊎ Contains rest c
  queue_cases c h = Contains-cons_cases next rest c (Contains-permutation queue (next ∷ rest) c taken h)

  -- a settled vertex is no farther than the next candidate
  pub settled_below : (i d : ℕ) → get_or ds i None ≡ Some d → d ≤ next.distance
  settled_below i d at =
      distance_from_key d next.distance i next.index (is_router_at t i) next.is_router
      (let small : length t.vertices ≤ 8192 = shape.few in let size = s.sized in let within : i < length ds = within_some ds i d at in omega arith)
      (let small : length t.vertices ≤ 8192 = shape.few in let within : next.index < length t.vertices = (s.candidates next next_in_queue).within in omega arith)
      (s.below i d next at next_in_queue)

  -- a candidate to a settled vertex is dropped
  pub Searching-drop : (d : ℕ) → get_or ds next.index None ≡ Some d → Searching t root ds order rest
  Searching-drop d at = record {
    sized = s.sized;
    paths = s.paths;
    bounded = s.bounded;
    candidates = λ c h. s.candidates c (in_queue c h);
    covered = λ e x arc from. ⊎_elim (λ done. inl done)
        (λ q. ⊎_elim
        (λ same. inl
        (dropped e.to (x + e.cost) (ap (λ (c : Candidate). c.index) same ∙ q.2) (subst (λ (c : Candidate). c.distance ≤ x + e.cost) (sym same) q.3)))
        (λ there. inr (q.0, there, q.2, q.3))
        (queue_cases q.0 q.1))
        (s.covered e x arc from);
    root_covered = ⊎_elim (λ done. inl done)
        (λ q. ⊎_elim
        (λ same. (let there : get_or ds root None ≡ Some d = subst (λ (n : ℕ). get_or ds n None ≡ Some d) (ap (λ (c : Candidate). c.index) same ∙ q.1.2) at in let none : get_or ds root None ≡ None = q.0 in cc))
        (λ there. inr (q.0, (q.1.0, there, q.1.2, q.1.3)))
        (queue_cases q.1.0 q.1.1))
        s.root_covered;
    below = λ i x c from h. s.below i x c from (in_queue c h);
    settled = s.settled;
    listed = s.listed;
    rising = s.rising;
  }
    where
      dropped : (i x : ℕ) → next.index ≡ i → next.distance ≤ x → IsAtMost (get_or ds i None) x
      dropped i x same le =
          let there : get_or ds i None ≡ Some d = subst (λ (n : ℕ). get_or ds n None ≡ Some d) same at in
          let low : d ≤ next.distance = settled_below next.index d at in
          let le' : d ≤ x = omega arith in
          subst (λ (o : Option ℕ). IsAtMost o x) (sym there) le'
