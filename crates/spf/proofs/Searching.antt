-- The invariant of Dijkstra's algorithm, at its start and at its end.
use Rattle.std.proofs.Common.{◌≡◌, ℕ, ◌+◌, ◌*◌, ◌<◌, ◌≤◌, List, [], ◌∷◌, length, get_or, Option, None, Some, IsSome, refl, subst, arith, ◌⊎◌, inr, ⊎_elim}
use Rattle.std.specs.List.{AllPairs, Contains}
use Rattle.std.specs.List.Sorted.{IsPermutation}
use Rattle.area_graph.specs.Paths.{DirectedEdge, HasPathOfCost}
use Rattle.area_graph.specs.Topology.{Topology, IsTopology, IsArc}
use Rattle.spf.specs.declared.queue.Candidate.{Candidate}
use Rattle.spf.specs.steps.Relaxation.{IsAtMost, Bounded, reached_count, Sound, Closed}
use Rattle.spf.specs.Candidates.{candidate_at}
use Rattle.spf.specs.steps.Search.{IsQueued, IsSettled}
use Rattle.spf.proofs.Keys.{key, key_at, Less-from_key}
use Rattle.spf.proofs.Pushing.{Contains-pushed_one, Contains-pushed_cases}
use Rattle.spf.proofs.Reached.{some_of, within_some}

-- a path that may be the next to be taken
pub record IsCandidate (t : Topology) (root : ℕ) (ds : List (Option ℕ)) (c : Candidate) : Type 0 where
  pub path : HasPathOfCost (IsArc t) root c.index c.distance
  pub within : c.index < length t.vertices
  pub kind : c ≡ candidate_at t c.distance c.index
  pub small : c.distance ≤ 65535 * reached_count ds

-- one vertex stands before another by their distances
abbrev pub IsKeyBelow : Topology → List (Option ℕ) → ℕ → ℕ → Type 0
IsKeyBelow t ds i j = (d e : ℕ) → get_or ds i None ≡ Some d → get_or ds j None ≡ Some e → key_at t d i < key_at t e j

-- the settled vertices have their distances, and what the edges out of them reach is settled or queued
pub record Searching (t : Topology) (root : ℕ) (ds : List (Option ℕ)) (order : List ℕ) (queue : List Candidate) : Type 0 where
  pub sized : length ds ≡ length t.vertices
  pub paths : (i d : ℕ) → get_or ds i None ≡ Some d → HasPathOfCost (IsArc t) root i d
  pub bounded : Bounded ds
  pub candidates : (c : Candidate) → Contains queue c → IsCandidate t root ds c
  pub covered : (e : DirectedEdge ℕ) (d : ℕ) → IsArc t e → get_or ds e.from None ≡ Some d
      → IsAtMost (get_or ds e.to None) (d + e.cost) ⊎ IsQueued queue e.to (d + e.cost)
  pub root_covered : (get_or ds root None ≡ Some 0) ⊎ ((get_or ds root None ≡ None) × IsQueued queue root 0)
  pub below : (i d : ℕ) (c : Candidate) → get_or ds i None ≡ Some d → Contains queue c → key_at t d i ≤ key c
  pub settled : (i : ℕ) → Contains order i → IsSome (get_or ds i None)
  pub listed : (i : ℕ) → IsSome (get_or ds i None) → Contains order i
  pub rising : AllPairs (λ i j. IsKeyBelow t ds i j) order

-- the start of the search
pub Searching-start : (t : Topology) (root : ℕ) (ds : List (Option ℕ)) (queue : List Candidate) → length ds ≡ length t.vertices
    → root < length t.vertices → ((i : ℕ) → get_or ds i None ≡ None) → IsPermutation (candidate_at t 0 root ∷ []) queue → Searching t root ds [] queue
Searching-start t root ds queue sized within none pushed = record {
  sized = sized;
  paths = λ i d at. absurd (clash i d at);
  bounded = λ i d at. absurd (clash i d at);
  candidates = λ c h. subst (λ (x : Candidate). IsCandidate t root ds x) (only c h) first;
  covered = λ e d arc at. absurd (clash e.from d at);
  root_covered =
      inr (none root, (candidate_at t 0 root, Contains-pushed_one (candidate_at t 0 root) [] queue pushed, refl, (let le : 0 ≤ 0 = omega arith in le)));
  below = λ i d c at h. absurd (clash i d at);
  settled = λ i h. absurd (nothing i h);
  listed = λ i h. absurd (let x = some_of (get_or ds i None) h in clash i x.0 x.1);
  rising = λ i j d lt far. absurd (omega arith);
}
  where
    clash : (i d : ℕ) → get_or ds i None ≡ Some d → ⊥
    clash i d at = let k = none i in cc

    nothing : (i : ℕ) → Contains [] i → ⊥
    nothing i h = let below : h.0 < 0 = h.1 in omega arith

    nothing' : (c : Candidate) → Contains [] c → ⊥
    nothing' c h = let below : h.0 < 0 = h.1 in omega arith

    only : (c : Candidate) → Contains queue c → candidate_at t 0 root ≡ c
    only c h = ⊎_elim (λ same. same) (λ there. absurd (nothing' c there)) (Contains-pushed_cases (candidate_at t 0 root) [] queue pushed c h)

    first : IsCandidate t root ds (candidate_at t 0 root)
    first = record { path = ([], refl, refl); within = within; kind = refl; small = omega arith }

-- once nothing is queued
pub Closed-empty : (t : Topology) (root : ℕ) (ds : List (Option ℕ)) (order : List ℕ) → Searching t root ds order [] → Closed t ds
Closed-empty t root ds order s e d arc at = ⊎_elim (λ h. h) (λ q. absurd (none q.0 q.1)) (s.covered e d arc at)
  where
    none : (c : Candidate) → Contains [] c → ⊥
    none c h = let below : h.0 < 0 = h.1 in omega arith

pub Sound-empty : (t : Topology) (root : ℕ) (ds : List (Option ℕ)) (order : List ℕ) → Searching t root ds order [] → Sound t root ds
Sound-empty t root ds order s = record {
  root_at = ⊎_elim (λ h. h) (λ q. absurd (none q.1.0 q.1.1)) s.root_covered;
  paths = s.paths;
}
  where
    none : (c : Candidate) → Contains [] c → ⊥
    none c h = let below : h.0 < 0 = h.1 in omega arith

-- the end of the search
pub IsSettled-empty : (t : Topology) (root : ℕ) (ds : List (Option ℕ)) (order : List ℕ)
    → IsTopology t → Searching t root ds order [] → IsSettled t root ds order
IsSettled-empty t root ds order shape s = record {
  sized = s.sized;
  sound = Sound-empty t root ds order s;
  closed = Closed-empty t root ds order s;
  bounded = s.bounded;
  settled = s.settled;
  listed = s.listed;
  rising = λ i j d lt within x e at_i at_j.
      let size = s.sized in
      let few : length t.vertices ≤ 8192 = shape.few in
      let one : get_or order i d < length ds = within_some ds (get_or order i d) x at_i in
      let two : get_or order j d < length ds = within_some ds (get_or order j d) e at_j in
      Less-from_key (candidate_at t x (get_or order i d)) (candidate_at t e (get_or order j d))
      (omega arith) (omega arith) (s.rising i j d lt within x e at_i at_j);
}
