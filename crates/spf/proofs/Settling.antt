-- What is known where the next candidate is settled, and what its distance keeps.
use Rattle.std.proofs.Common.{◌≡◌, ℕ, ◌+◌, ◌*◌, ◌<◌, ◌≤◌, ◌^◌, List, ◌∷◌, length, get_or, set, Option, None, Some, is_some, cond, refl, sym, ap, ◌∙◌}
use Rattle.std.proofs.Common.{subst, arith, ◌⊎◌, inl, inr, ⊎_elim, false}
use Rattle.std.specs.List.{All, Contains}
use Rattle.std.specs.List.Sorted.{IsPermutation}
use Rattle.std.specs.Ordering.{is_lt}
use Rattle.std.proofs.lemmas.List.{get_or-set_same, get_or-set_other}
use Rattle.std.proofs.lemmas.List.Elements.{All-contains}
use Rattle.area_graph.specs.Paths.{DirectedEdge, HasPathOfCost}
use Rattle.area_graph.specs.Topology.{Topology, IsTopology, IsArc}
use Rattle.area_graph.proofs.PathLemmas.{HasPathOfCost-push}
use Rattle.spf.specs.declared.queue.Candidate.{Candidate}
use Rattle.spf.specs.steps.Relaxation.{Bounded, reached_count}
use Rattle.spf.specs.Candidates.{candidate_cmp, candidate_at}
use Rattle.spf.specs.steps.Search.{PushesNeighbors}
use Rattle.spf.proofs.Keys.{key, key_at, key-le, arc_key}
use Rattle.spf.proofs.Reached.{at_set, reached_count-set}
use Rattle.spf.proofs.Searching.{IsCandidate, Searching}
use Rattle.spf.proofs.Taking.{in_queue, next_in_queue}

-- the first candidate of the queue leads to a vertex that isn't settled; it is taken, and the
-- neighbors of that vertex are pushed
pub record Settles (t : Topology) (root : ℕ) (ds : List (Option ℕ)) (order : List ℕ) (queue rest pushed : List Candidate) (next : Candidate) : Type 0 where
  pub shape : IsTopology t
  pub before : Searching t root ds order queue
  pub taken : IsPermutation queue (next ∷ rest)
  pub first : All (λ (o : Candidate). is_lt (candidate_cmp o next) ≡ false) rest
  pub fresh : get_or ds next.index None ≡ None
  pub pushes : PushesNeighbors t next.index next.distance (set ds next.index (Some next.distance)) rest pushed

-- the distances, once the next candidate is settled
abbrev pub settled_at : List (Option ℕ) → Candidate → List (Option ℕ)
settled_at ds next = set ds next.index (Some next.distance)

module _ (t : Topology) (root : ℕ) (ds : List (Option ℕ)) (order : List ℕ) (queue rest pushed : List Candidate)
    (next : Candidate) (s : Settles t root ds order queue rest pushed next) where
  pub next_there : Contains queue next
  next_there = next_in_queue t s.shape root ds order queue rest next s.before s.taken

  pub rest_there : (c : Candidate) → Contains rest c → Contains queue c
  rest_there = in_queue t s.shape root ds order queue rest next s.before s.taken

  pub next_is : IsCandidate t root ds next
  next_is = s.before.candidates next next_there

  pub next_small : next.index < 8192
  next_small = let few : length t.vertices ≤ 8192 = s.shape.few in let within : next.index < length t.vertices = next_is.within in omega arith

  pub next_within : next.index < length ds
  next_within = let size = s.before.sized in let within : next.index < length t.vertices = next_is.within in omega arith

  -- what was settled stays so
  pub stays : (i d : ℕ) → get_or ds i None ≡ Some d → get_or (settled_at ds next) i None ≡ Some d
  stays i d at = get_or-set_other ds next.index i (Some next.distance) None (λ same. clash (subst (λ (n : ℕ). get_or ds n None ≡ None) (sym same) s.fresh)) ∙ at
    where
      clash : get_or ds i None ≡ None → ⊥
      clash none = cc

  pub next_at : get_or (settled_at ds next) next.index None ≡ Some next.distance
  next_at = get_or-set_same ds next.index (Some next.distance) None next_within

  -- what is settled was so before, or is the next vertex
  pub settled_cases : (i d : ℕ) → get_or (settled_at ds next) i None ≡ Some d → ((i ≡ next.index) × (d ≡ next.distance)) ⊎ (get_or ds i None ≡ Some d)
  settled_cases i d at = ⊎_elim (λ p. inl p) (λ p. inr p.1) (at_set ds i next.index next.distance d next_within at)

  -- one more is reached
  pub count_up : reached_count (settled_at ds next) ≡ reached_count ds + 1
  count_up =
      let e = reached_count-set ds next.index next.distance next_within in
      let e' : reached_count (settled_at ds next) + 0 ≡ reached_count ds + 1 =
      subst (λ (o : Option ℕ). reached_count (settled_at ds next) + cond (is_some o) 1 0 ≡ reached_count ds + 1) s.fresh e in
      omega arith

  pub bounded_next : Bounded (settled_at ds next)
  bounded_next i d at =
      let up = count_up in
      let small : next.distance ≤ 65535 * reached_count ds = next_is.small in
      ⊎_elim
      (λ p. let same : d ≡ next.distance = p.1 in omega arith)
      (λ there. let old : d + 65535 ≤ 65535 * reached_count ds = s.before.bounded i d there in omega arith)
      (settled_cases i d at)

  pub paths_next : (i d : ℕ) → get_or (settled_at ds next) i None ≡ Some d → HasPathOfCost (IsArc t) root i d
  paths_next i d at =
      ⊎_elim
      (λ p. subst (λ (n : ℕ). HasPathOfCost (IsArc t) root i n) (sym p.1)
      (subst (λ (n : ℕ). HasPathOfCost (IsArc t) root n next.distance) (sym p.0) next_is.path))
      (λ there. s.before.paths i d there)
      (settled_cases i d at)

  -- a candidate that was there is one still
  candidate_stays : (c : Candidate) → IsCandidate t root ds c → IsCandidate t root (settled_at ds next) c
  candidate_stays c k = record {
    path = k.path;
    within = k.within;
    kind = k.kind;
    small =
        (let up = count_up in let small : c.distance ≤ 65535 * reached_count ds = k.small in omega arith);
  }

  -- and so is one over an edge out of the next vertex
  candidate_new : (e : DirectedEdge ℕ) → IsArc t e → e.from ≡ next.index
      → IsCandidate t root (settled_at ds next) (candidate_at t (next.distance + e.cost) e.to)
  candidate_new e arc from = record {
    path = HasPathOfCost-push (IsArc t) root e next.distance (subst (λ (n : ℕ). HasPathOfCost (IsArc t) root n next.distance) (sym from) next_is.path) arc;
    within = s.shape.in_range e arc;
    kind = refl;
    small = (let up = count_up in let small : next.distance ≤ 65535 * reached_count ds = next_is.small in let cost : e.cost < 2 ^ 16 = s.shape.cost_below e arc in omega arith);
  }

  pub candidates_next : (c : Candidate) → Contains pushed c → IsCandidate t root (settled_at ds next) c
  candidates_next c h =
      ⊎_elim
      (λ there. candidate_stays c (s.before.candidates c (rest_there c there)))
      (λ q. subst (λ (x : Candidate). IsCandidate t root (settled_at ds next) x) (sym q.3) (candidate_new q.0 q.1 q.2))
      (s.pushes.only c h)

  -- the next vertex is as its candidate says
  pub next_key : key_at t next.distance next.index ≡ key next
  next_key = sym (ap (λ (c : Candidate). key c) next_is.kind)

  -- no candidate that is left has a less key
  pub first_key : (c : Candidate) → Contains rest c → key next ≤ key c
  first_key c h =
      let few : length t.vertices ≤ 8192 = s.shape.few in
      let within : c.index < length t.vertices = (s.before.candidates c (rest_there c h)).within in
      key-le next c next_small (omega arith) (All-contains (λ (o : Candidate). is_lt (candidate_cmp o next) ≡ false) rest c s.first h)

  -- an edge out of the next vertex leads to a greater key
  neighbor_key : (e : DirectedEdge ℕ) → IsArc t e → e.from ≡ next.index → key next < key_at t (next.distance + e.cost) e.to
  neighbor_key e arc from =
      subst (λ (k : ℕ). k < key_at t (next.distance + e.cost) e.to)
      (ap (λ (n : ℕ). key_at t next.distance n) from ∙ next_key) (arc_key t s.shape e next.distance arc)

  -- no candidate that is then in the queue has a less key
  pub pushed_key : (c : Candidate) → Contains pushed c → key next ≤ key c
  pushed_key c h =
      ⊎_elim
      (λ old. first_key c old)
      (λ q. (let more : key next < key_at t (next.distance + q.0.cost) q.0.to = neighbor_key q.0 q.1 q.2 in let is : key c ≡ key_at t (next.distance + q.0.cost) q.0.to = ap (λ (x : Candidate). key x) q.3 in omega arith))
      (s.pushes.only c h)
