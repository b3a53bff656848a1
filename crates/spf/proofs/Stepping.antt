-- One turn of Dijkstra's algorithm keeps the invariant and makes the work less.
use Rattle.std.proofs.Common.{◌≡◌, ℕ, ◌<◌, List, ◌∷◌, length, get_or, set, Option, None, Some, refl, sym, subst, arith, false}
use Rattle.std.specs.Prelude.{MatchOption}
use Rattle.std.specs.List.{All}
use Rattle.std.specs.List.Sorted.{IsPermutation}
use Rattle.std.specs.Ordering.{is_lt}
use Rattle.std.proofs.lemmas.List.Sorted.{length_permutation}
use Rattle.area_graph.specs.Topology.{Topology, IsTopology}
use Rattle.spf.specs.declared.queue.Candidate.{Candidate}
use Rattle.spf.specs.Candidates.{candidate_cmp}
use Rattle.spf.specs.steps.Search.{PushesNeighbors, SettlesOne, SettlesNew}
use Rattle.spf.proofs.Searching.{Searching}
use Rattle.spf.proofs.Settled.{Searching-settle}
use Rattle.spf.proofs.Taking.{Searching-drop, next_candidate, work, work-settle}

module _ (t : Topology) (shape : IsTopology t) (root : ℕ) (ds : List (Option ℕ)) (order : List ℕ) (queue rest : List Candidate)
    (next : Candidate) (s : Searching t root ds order queue) (taken : IsPermutation queue (next ∷ rest))
    (ds' : List (Option ℕ)) (order' : List ℕ) (queue' : List Candidate) where
  Searching-new : All (λ (o : Candidate). is_lt (candidate_cmp o next) ≡ false) rest → get_or ds next.index None ≡ None
      → SettlesOne t next ds order rest ds' order' queue' → Searching t root ds' order' queue'
  Searching-new first fresh one =
      subst (λ (xs : List (Option ℕ)). Searching t root xs order' queue') (sym one.distances)
      (subst (λ (xs : List ℕ). Searching t root (set ds next.index (Some next.distance)) xs queue') (sym one.last)
      (Searching-settle t root ds order queue rest queue' next (record {
        shape = shape;
        before = s;
        taken = taken;
        first = first;
        fresh = fresh;
        pushes = subst (λ (xs : List (Option ℕ)). PushesNeighbors t next.index next.distance xs rest queue') one.distances one.pushes;
      })))

  -- the invariant
  pub Searching-step : All (λ (o : Candidate). is_lt (candidate_cmp o next) ≡ false) rest
      → SettlesNew t next ds order rest ds' order' queue' → Searching t root ds' order' queue'
  Searching-step first step = by_distance (get_or ds next.index None) refl step
    where
      by_distance : (o : Option ℕ) → get_or ds next.index None ≡ o → MatchOption o (SettlesOne t next ds order rest ds' order' queue')
          (λ _. (ds' ≡ ds) × (order' ≡ order) × (queue' ≡ rest)) → Searching t root ds' order' queue'
      by_distance None is one = Searching-new first is one
      by_distance (Some d) is same =
          subst (λ (xs : List (Option ℕ)). Searching t root xs order' queue') (sym same.0)
          (subst (λ (xs : List ℕ). Searching t root ds xs queue') (sym same.1)
          (subst (λ (xs : List Candidate). Searching t root ds order xs) (sym same.2) (Searching-drop t shape root ds order queue rest next s taken d is)))

  -- the measure
  pub work-step : SettlesNew t next ds order rest ds' order' queue' → work ds' queue' < work ds queue
  work-step step = by_distance (get_or ds next.index None) refl step
    where
      within : next.index < length ds
      within = let size = s.sized in let there : next.index < length t.vertices = (next_candidate next rest s taken).within in omega arith

      by_distance : (o : Option ℕ) → get_or ds next.index None ≡ o → MatchOption o (SettlesOne t next ds order rest ds' order' queue')
          (λ _. (ds' ≡ ds) × (order' ≡ order) × (queue' ≡ rest)) → work ds' queue' < work ds queue
      by_distance None is one =
          subst (λ (xs : List (Option ℕ)). work xs queue' < work ds queue) (sym one.distances)
          (work-settle ds next.index next.distance queue rest queue' next within is taken one.count)
      by_distance (Some d) is same =
          let longer : length (next ∷ rest) ≡ length queue = length_permutation queue (next ∷ rest) taken in
          let less : work ds rest < work ds queue = omega arith in
          subst (λ (xs : List (Option ℕ)). work xs queue' < work ds queue) (sym same.0)
          (subst (λ (xs : List Candidate). work ds xs < work ds queue) (sym same.2) less)
