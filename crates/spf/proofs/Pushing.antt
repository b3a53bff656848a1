-- What pushing candidates adds to the queue.
use Rattle.std.proofs.Common.{◌≡◌, ℕ, zero, suc, ◌+◌, ◌<◌, ◌≤◌, List, [], ◌∷◌, ◌++◌, length, get_or, Option, None, IsSome, refl, sym}
use Rattle.std.proofs.Common.{ap, subst, arith, ◌⊎◌, inl, inr, ⊎_elim}
use Rattle.std.specs.List.{All, Contains}
use Rattle.std.specs.List.Sorted.{IsPermutation}
use Rattle.std.proofs.lemmas.List.Elements.{All-contains, All-weaker, Contains-append_left, Contains-push, All-push}
use Rattle.std.proofs.lemmas.List.Sorted.{Contains-permutation, IsPermutation-sym, length_permutation}
use Rattle.area_graph.specs.declared.edge.Edge.{Edge}
use Rattle.area_graph.specs.Topology.{Topology, row_at}
use Rattle.spf.specs.declared.queue.Candidate.{Candidate}
use Rattle.spf.specs.Candidates.{candidate_at}
use Rattle.spf.specs.steps.Search.{IsQueued, PushesEdge, PushesNeighbors}
use Rattle.spf.proofs.Closing.{arc_from}

-- what is in a list is its head or in its tail
pub Contains-cons_cases : {X : Type 0} (x : X) (xs : List X) (y : X) → Contains (x ∷ xs) y → (x ≡ y) ⊎ Contains xs y
Contains-cons_cases x xs y h = Contains-cons_at x xs y h.0 h.1 h.2
  where
    Contains-cons_at : {X : Type 0} (x : X) (xs : List X) (y : X) (k : ℕ) → k < length (x ∷ xs) → get_or (x ∷ xs) k y ≡ y → (x ≡ y) ⊎ Contains xs y
    Contains-cons_at x xs y zero lt is = inl is
    Contains-cons_at x xs y (suc k) lt is = inr (k, omega arith, is)

pub Contains-head : {X : Type 0} (x : X) (xs : List X) → Contains (x ∷ xs) x
Contains-head x xs = (0, omega arith, refl)

pub Contains-tail : {X : Type 0} (x : X) (xs : List X) (y : X) → Contains xs y → Contains (x ∷ xs) y
Contains-tail x xs y h = (suc h.0, (let lt : h.0 < length xs = h.1 in omega arith), h.2)

module _ {X : Type 0} (x : X) (xs ys : List X) (p : IsPermutation (x ∷ xs) ys) where
  -- a list with one more
  pub Contains-pushed : (y : X) → Contains xs y → Contains ys y
  Contains-pushed y h = Contains-permutation (x ∷ xs) ys y p (Contains-tail x xs y h)

  pub Contains-pushed_one : Contains ys x
  Contains-pushed_one = Contains-permutation (x ∷ xs) ys x p (Contains-head x xs)

  pub Contains-pushed_cases : (y : X) → Contains ys y → (x ≡ y) ⊎ Contains xs y
  Contains-pushed_cases y h = Contains-cons_cases x xs y (Contains-permutation ys (x ∷ xs) y (IsPermutation-sym (x ∷ xs) ys p) h)

-- new is old and a candidate for each edge of these
pub record PushesRow (t : Topology) (distance : ℕ) (ds : List (Option ℕ)) (row : List Edge) (old new : List Candidate) : Type 0 where
  pub kept : (c : Candidate) → Contains old c → Contains new c
  pub only : (c : Candidate) → Contains new c → Contains old c ⊎ ((o : Edge) × Contains row o × (c ≡ candidate_at t (distance + o.cost) o.to))
  pub all : All (λ (o : Edge). IsSome (get_or ds o.to None) ⊎ IsQueued new o.to (distance + o.cost)) row

module _ (t : Topology) (distance : ℕ) (ds : List (Option ℕ)) where
  pub PushesRow-none : (old : List Candidate) → PushesRow t distance ds [] old old
  PushesRow-none old = record { kept = λ c h. h; only = λ c h. inl h; all = λ k d lt. absurd (omega arith) }

  module _ (row : List Edge) (o : Edge) (old mid new : List Candidate) (before : PushesRow t distance ds row old mid) where
    only_wider : (c : Candidate) → Contains mid c → Contains old c ⊎ ((x : Edge) × Contains (row ++ o ∷ []) x × (c ≡ candidate_at t (distance + x.cost) x.to))
    only_wider c h = ⊎_elim (λ there. inl there) (λ q. inr (q.0, Contains-append_left row (o ∷ []) q.0 q.1, q.2)) (before.only c h)

    -- an edge to a vertex that is settled
    pub PushesRow-skip : IsSome (get_or ds o.to None) → PushesRow t distance ds (row ++ o ∷ []) old mid
    PushesRow-skip settled = record {
      kept = before.kept;
      only = only_wider;
      all = All-push (λ (x : Edge). IsSome (get_or ds x.to None) ⊎ IsQueued mid x.to (distance + x.cost)) row o before.all (inl settled);
    }

    -- an edge to a vertex that has a candidate which is no farther
    pub PushesRow-beaten : IsQueued mid o.to (distance + o.cost) → PushesRow t distance ds (row ++ o ∷ []) old mid
    PushesRow-beaten queued = record {
      kept = before.kept;
      only = only_wider;
      all = All-push (λ (x : Edge). IsSome (get_or ds x.to None) ⊎ IsQueued mid x.to (distance + x.cost)) row o before.all (inr queued);
    }

    -- an edge whose candidate is pushed
    pub PushesRow-push : IsPermutation (candidate_at t (distance + o.cost) o.to ∷ mid) new → PushesRow t distance ds (row ++ o ∷ []) old new
    PushesRow-push p = record {
      kept = λ c h. Contains-pushed (candidate_at t (distance + o.cost) o.to) mid new p c (before.kept c h);
      only = λ c h.
          ⊎_elim (λ same. inr (o, Contains-push row o, sym same)) (λ there. only_wider c there)
          (Contains-pushed_cases (candidate_at t (distance + o.cost) o.to) mid new p c h);
      all = All-push (λ (x : Edge). IsSome (get_or ds x.to None) ⊎ IsQueued new x.to (distance + x.cost)) row o
          (All-weaker (λ (x : Edge). IsSome (get_or ds x.to None) ⊎ IsQueued mid x.to (distance + x.cost))
          (λ (x : Edge). IsSome (get_or ds x.to None) ⊎ IsQueued new x.to (distance + x.cost))
          (λ x h. ⊎_elim (λ settled. inl settled) (λ q. inr
          (q.0, Contains-pushed (candidate_at t (distance + o.cost) o.to) mid new p q.0 q.1, q.2, q.3)) h) row before.all)
          (inr (candidate_at t (distance + o.cost) o.to, Contains-pushed_one (candidate_at t (distance + o.cost) o.to) mid new p, refl, (let le : distance + o.cost ≤ distance + o.cost = omega arith in le)));
    }

    -- an edge of the row
    pub PushesRow-edge : PushesEdge t o distance ds mid new → PushesRow t distance ds (row ++ o ∷ []) old new
    PushesRow-edge h = ⊎_elim (λ p. PushesRow-push p)
        (λ same. subst (λ (xs : List Candidate). PushesRow t distance ds (row ++ o ∷ []) old xs) (sym same.0)
        (⊎_elim (λ settled. PushesRow-skip settled) (λ queued. PushesRow-beaten queued) same.1)) h

  -- the whole row of a vertex
  pub PushesNeighbors-row : (from : ℕ) (old new : List Candidate)
      → PushesRow t distance ds (row_at t from) old new → PushesNeighbors t from distance ds old new
  PushesNeighbors-row from old new p = record {
    kept = p.kept;
    only = λ c h. ⊎_elim (λ there. inl there) (λ q. inr (arc_from from q.0, q.1, refl, q.2)) (p.only c h);
    all = λ e arc is.
        let o : Edge = record { to = e.to; cost = e.cost; link_data = e.link_data } in
        All-contains (λ (x : Edge). IsSome (get_or ds x.to None) ⊎ IsQueued new x.to (distance + x.cost))
        (row_at t from) o p.all (subst (λ (n : ℕ). Contains (row_at t n) o) is arc);
  }

-- an edge adds at most one candidate
pub PushesEdge-count : (t : Topology) (o : Edge) (distance : ℕ) (ds : List (Option ℕ)) (old new : List Candidate)
    → PushesEdge t o distance ds old new → length new ≤ length old + 1
PushesEdge-count t o distance ds old new h =
    ⊎_elim (λ p. (let e = length_permutation (candidate_at t (distance + o.cost) o.to ∷ old) new p in omega arith))
    (λ same. (let e = ap (λ (xs : List Candidate). length xs) same.0 in omega arith)) h
