-- The routers that walks reach, level after level: those that the least number of steps reaches.
use Rattle.std.proofs.Common.{◌≡◌, ℕ, ◌+◌, ◌<◌, ◌≤◌, List, [], ◌∷◌, ◌++◌, length, refl, subst, arith, ◌⊎◌, inl, inr, ⊎_elim}
use Rattle.std.proofs.lemmas.Bool.{cases_lt}
use Rattle.std.proofs.lemmas.List.{append-nil, length-append}
use Rattle.lsa_codec.specs.declared.address.RouterId.{RouterId}
use Rattle.area_graph.proofs.MemberLemmas.{In, Contains-from_In, In-cases, In-from_Contains, In-left, In-right}
use Rattle.forwarding.specs.Walks.{AreReached, IsLeastSteps, IsLess, IsNearer, IsWalk}
use Rattle.forwarding.proofs.Walked.{AllPairs-from, InPairs, InPairs-append, stays_in, walk_last, walk_push}

module _ (next : RouterId → List RouterId) (start : RouterId) where
  -- the level is what n steps reach and no fewer, and those seen are what fewer steps reach
  pub record IsRound (n : ℕ) (seen level : List RouterId) : Type 0 where
    pub closed : (v w : RouterId) → In seen v → In (next v) w → In (seen ++ level) w
    pub within : (us : List RouterId) (w : RouterId) → IsWalk next start us w → length us ≤ n → In (seen ++ level) w
    pub before : (v : RouterId) → In seen v → (us : List RouterId) × IsWalk next start us v × (length us < n)
    pub here : (v : RouterId) → In level v → (us : List RouterId) × IsWalk next start us v × (length us ≡ n)
    pub least : (v : RouterId) → In level v → (us : List RouterId) → IsWalk next start us v → n ≤ length us
    pub order : InPairs (IsNearer next start) seen
    pub rising : InPairs IsLess level

  pub first_round : IsRound 0 [] (start ∷ [])
  first_round = record {
    closed = λ v w i step. absurd i;
    within = at_start;
    before = λ v i. absurd i;
    here = λ v i. ⊎_elim (λ p. ([], p, refl)) (λ none. absurd none) i;
    least = λ v i us p. omega arith;
    order = tt;
    rising = (λ y i. absurd i, tt);
  }
    where
      at_start : (us : List RouterId) (w : RouterId) → IsWalk next start us w → length us ≤ 0 → In (start ∷ []) w
      at_start [] w p le = inl p
      at_start (x ∷ us) w p le = absurd (omega arith)

  module _ (n : ℕ) (seen level : List RouterId) (r : IsRound n seen level) where
    -- those of the level are n steps away
    exact : (v : RouterId) → In level v → (m : ℕ) → IsLeastSteps next start v m → m ≡ n
    exact v i m least =
        let h = r.here v i in
        let most : m ≤ length h.0 = least.1 h.0 h.1 in
        let count : length h.0 ≡ n = h.2 in
        let fewest : n ≤ length (least.0).0 = r.least v i (least.0).0 (least.0).1 in
        let own : length (least.0).0 ≡ m = (least.0).2 in
        omega arith

    level_order : (xs : List RouterId) → ((v : RouterId) → In xs v → In level v) → InPairs IsLess xs → InPairs (IsNearer next start) xs
    level_order [] are s = tt
    level_order (x ∷ xs) are s = (
      λ y i m k at_x at_y.
          (let one = exact x (are x (inl refl)) m at_x in
          let two = exact y (are y (inr i)) k at_y in
          inr (omega arith, s.0 y i)),
      level_order xs (λ v i. are v (inr i)) s.1,
    )

    farther : (v w : RouterId) → In seen v → In level w → IsNearer next start v w
    farther v w i j = λ m k at_v at_w.
        (let b = r.before v i in
        let most : m ≤ length b.0 = at_v.1 b.0 b.1 in
        let few : length b.0 < n = b.2 in
        let same = exact w j k at_w in
        inl (omega arith))

    pub seen_order : InPairs (IsNearer next start) (seen ++ level)
    seen_order = InPairs-append (IsNearer next start) seen level r.order (level_order level (λ v i. i) r.rising) farther

    module _ (new : List RouterId)
        (only : (w : RouterId) → In new w → (v : RouterId) × In level v × In (next v) w × (In (seen ++ level) w → ⊥))
        (all : (v w : RouterId) → In level v → In (next v) w → In (seen ++ level) w ⊎ In new w)
        (sorted : InPairs IsLess new) where
      ahead : (v w : RouterId) → In (seen ++ level) v → In (next v) w → In ((seen ++ level) ++ new) w
      ahead v w i step =
          ⊎_elim
          (λ s. In-left (seen ++ level) new w (r.closed v w s step))
          (λ l. ⊎_elim (λ j. In-left (seen ++ level) new w j) (λ j. In-right (seen ++ level) new w j) (all v w l step))
          (In-cases seen level v i)

      reach : (us : List RouterId) (w : RouterId) → IsWalk next start us w → length us ≤ n + 1 → In ((seen ++ level) ++ new) w
      reach [] w p le = In-left (seen ++ level) new w (r.within [] w p (omega arith))
      reach (x ∷ us) w p le =
          ⊎_elim
          (λ long. (let last = walk_last next x us start w p in
          let count : length (x ∷ us) ≡ length last.steps + 1 = last.count in
          ahead last.before w (r.within last.steps last.before last.walk (omega arith)) last.step))
          (λ short. In-left (seen ++ level) new w (r.within (x ∷ us) w p short))
          (cases_lt n (length (x ∷ us)))

      earlier : (v : RouterId) → In (seen ++ level) v → (us : List RouterId) × IsWalk next start us v × (length us < n + 1)
      earlier v i =
          ⊎_elim
          (λ s. (let b = r.before v s in let few : length b.0 < n = b.2 in (b.0, b.1, omega arith)))
          (λ l. (let h = r.here v l in let count : length h.0 ≡ n = h.2 in (h.0, h.1, omega arith)))
          (In-cases seen level v i)

      onward : (w : RouterId) → In new w → (us : List RouterId) × IsWalk next start us w × (length us ≡ n + 1)
      onward w i =
          let o = only w i in
          let h = r.here o.0 o.1 in
          let count : length h.0 ≡ n = h.2 in
          (h.0 ++ w ∷ [], walk_push next h.0 start o.0 w h.1 o.2, omega (arith, length-append h.0 (w ∷ [])))

      fewest : (w : RouterId) → In new w → (us : List RouterId) → IsWalk next start us w → n + 1 ≤ length us
      fewest w i us p =
          ⊎_elim (λ long. omega arith) (λ short. absurd ((only w i).3 (r.within us w p short))) (cases_lt n (length us))

      -- one level more
      pub next_round : IsRound (n + 1) (seen ++ level) new
      next_round = record {
        closed = ahead;
        within = reach;
        before = earlier;
        here = onward;
        least = fewest;
        order = seen_order;
        rising = sorted;
      }

  -- without a further level all are reached
  pub all_reached : (n : ℕ) (seen : List RouterId) → IsRound n seen [] → AreReached next start seen
  all_reached n seen r = record {
    members = λ router. (
      λ c. (let b = r.before router (In-from_Contains seen router c) in (b.0, b.1)),
      λ walk. Contains-from_In seen router
          (stays_in next seen (λ v w i step. whole w (r.closed v w i step)) walk.0 start router walk.1 (whole start (r.within [] start refl (omega arith)))),
    );
    order = AllPairs-from (IsNearer next start) seen r.order;
  }
    where
      whole : (w : RouterId) → In (seen ++ []) w → In seen w
      whole w i = subst (λ (xs : List RouterId). In xs w) (append-nil seen) i
