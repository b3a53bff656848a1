-- The routers from which each walk passes one router.
use Rattle.std.proofs.Common.{◌≡◌, ℕ, zero, suc, ◌+◌, ◌≤◌, Bool, true, false, List, [], ◌∷◌, ◌++◌, length, Option, None, Some, refl, sym, ap, ◌∙◌, subst, arith, ◌⊎◌, inl, inr, ⊎_elim}
use Rattle.std.specs.Cmp.{Equal-is, unsigned_ties}
use Rattle.std.specs.Prelude.{◌↔◌, ◌&&◌, not, All}
use Rattle.std.specs.List.{Contains, list_all}
use Rattle.std.specs.BTreeSet.{insert_key}
use Rattle.std.specs.Option.{option_map_or}
use Rattle.std.specs.Ordering.{eq_by_cmp}
use Rattle.std.proofs.lemmas.Bool.{and_parts, eq-eqb, false≢true}
use Rattle.std.proofs.lemmas.List.Elements.{All-append, All-from_recursion, All-contains}
use Rattle.lsa_codec.specs.Order.{router_cmp}
use Rattle.lsa_codec.specs.declared.address.RouterId.{RouterId}
use Rattle.lsa_codec.proofs.OrderLemmas.{router_exact, router_total}
use Rattle.area_graph.proofs.MemberLemmas.{In, Contains-from_In, In-filter_map, In-from_Contains, In-list_any, filter_map-In, list_all-In, list_any-In}
use Rattle.area_graph.proofs.RisingLemmas.{In-insert, insert-In}
use Rattle.hop_ends.specs.declared.way.Way.{Way}
use Rattle.forwarding.specs.Graphs.{StepValue, next_in, step_at, ways_by}
use Rattle.forwarding.specs.Matches.{MatchValue}
use Rattle.forwarding.specs.Walks.{AreReached, IsWalk}
use Rattle.hop_ends.specs.Ways.{router_over, routers_over}
use Rattle.route_report.specs.Passing.{IsPassed, ends_by, ends_walks}
use Rattle.route_report.specs.steps.Sure.{Adds, AreSure, IsSettled, has_router, is_sure, leads_into, leads_only_into, sure_by}

-- ---- members of a set of routers

same_exact : (a b : RouterId) → eq_by_cmp router_cmp a b ≡ true → a ≡ b
same_exact a b h = router_exact a b ((Equal-is (router_cmp a b)).0 h)

same_self : (a : RouterId) → eq_by_cmp router_cmp a a ≡ true
same_self a = sym (unsigned_ties a.0 a.0) ∙ eq-eqb a.0 a.0 refl

has_In : (routers : List RouterId) (router : RouterId) → has_router routers router ≡ true → In routers router
has_In routers router h =
    let f = list_any-In (eq_by_cmp router_cmp router) routers h in
    subst (λ (r : RouterId). In routers r) (sym (same_exact router f.0 f.2)) f.1

In_has : (routers : List RouterId) (router : RouterId) → In routers router → has_router routers router ≡ true
In_has routers router i = In-list_any (eq_by_cmp router_cmp router) routers router i (same_self router)

-- ---- tests

not_true : (b : Bool) → not b ≡ true → b ≡ false
not_true true h = absurd (false≢true h)
not_true false h = refl

one_fails : {X : Type 0} (p : X → Bool) (xs : List X) → list_all p xs ≡ false → (x : X) × In xs x × (p x ≡ false)
one_fails p [] h = absurd (false≢true (sym h))
one_fails {X} p (x ∷ xs) h = by (p x) refl (λ k. one_fails p xs k) h
  where
    by : (b : Bool) → p x ≡ b → (list_all p xs ≡ false → (y : X) × In xs y × (p y ≡ false)) → (b && list_all p xs) ≡ false
        → (y : X) × In (x ∷ xs) y × (p y ≡ false)
    by true is later rest = let f = later rest in (f.0, inr f.1, f.2)
    by false is later rest = (x, inl refl, is)

-- a walk with one step more
walk_on : (next : RouterId → List RouterId) (us : List RouterId) (v u w : RouterId) → IsWalk next v us u → Contains (next u) w
    → IsWalk next v (us ++ w ∷ []) w
walk_on next [] v u w p c = (subst (λ (x : RouterId). Contains (next x) w) (sym p) c, refl)
walk_on next (x ∷ us) v u w p c = (p.0, walk_on next us x u w p.1 c)

module _ (graph : List StepValue) where
  -- what it means that walks from a router go on to these alone
  sure_means : (sure : List RouterId) (v : RouterId) → is_sure graph sure v ≡ true
      → (ends_walks graph v ≡ false) × ((u : RouterId) → In (next_in graph v) u → In sure u)
  sure_means sure v h = by (step_at graph v) h
    where
      over : (m : Option MatchValue) → option_map_or (λ (x : MatchValue). list_all (leads_into sure) x.ways) m true ≡ true
          → (u : RouterId) → In (routers_over (option_map_or (λ (x : MatchValue). x.ways) m [])) u → In sure u
      over None all u i = absurd i
      over (Some m) all u i =
          let f = filter_map-In router_over m.ways u i in
          let into : leads_into sure f.0 ≡ true = list_all-In (leads_into sure) m.ways all f.0 f.1 in
          has_In sure u (sym (ap (λ (o : Option RouterId). option_map_or (has_router sure) o true) f.2) ∙ into)

      by : (o : Option StepValue) → sure_by sure o ≡ true
          → (option_map_or ends_by o false ≡ false) × ((u : RouterId) → In (routers_over (option_map_or (ways_by graph) o [])) u → In sure u)
      by None h = (refl, λ u i. absurd i)
      by (Some s) h = let parts = and_parts (not (ends_by s)) (leads_only_into sure s) h in (not_true (ends_by s) parts.0, over s.matched parts.1)

  -- what it means that they may not
  unsure_means : (sure : List RouterId) (v : RouterId) → is_sure graph sure v ≡ false
      → (ends_walks graph v ≡ true) ⊎ ((u : RouterId) × In (next_in graph v) u × (has_router sure u ≡ false))
  unsure_means sure v h = by (step_at graph v) h
    where
      to : (way : Way) (o : Option RouterId) → router_over way ≡ o → option_map_or (has_router sure) o true ≡ false
          → (u : RouterId) × (router_over way ≡ Some u) × (has_router sure u ≡ false)
      to way None is h = absurd (false≢true (sym h))
      to way (Some u) is h = (u, is, h)

      over : (m : Option MatchValue) → option_map_or (λ (x : MatchValue). list_all (leads_into sure) x.ways) m true ≡ false
          → (u : RouterId) × In (routers_over (option_map_or (λ (x : MatchValue). x.ways) m [])) u × (has_router sure u ≡ false)
      over None h = absurd (false≢true (sym h))
      over (Some m) h =
          let f = one_fails (leads_into sure) m.ways h in
          let t = to f.0 (router_over f.0) refl f.2 in
          (t.0, In-filter_map router_over m.ways f.0 t.0 f.1 t.1, t.2)

      ending : (s : StepValue) (b : Bool) → ends_by s ≡ b → (not b && leads_only_into sure s) ≡ false
          → (ends_by s ≡ true) ⊎ ((u : RouterId) × In (routers_over (ways_by graph s)) u × (has_router sure u ≡ false))
      ending s true is h = inl is
      ending s false is h = inr (over s.matched h)

      by : (o : Option StepValue) → sure_by sure o ≡ false → (option_map_or ends_by o false ≡ true)
          ⊎ ((u : RouterId) × In (routers_over (option_map_or (ways_by graph) o [])) u × (has_router sure u ≡ false))
      by None h = absurd (false≢true (sym h))
      by (Some s) h = ending s (ends_by s) refl h

  module _ (target : RouterId) where
    -- all walks of this number of steps and more from a router pass the target
    abbrev PassWithin : RouterId → ℕ → Type 0
    PassWithin v n = (us : List RouterId) (last : RouterId) → IsWalk (next_in graph) v us last → n ≤ length us → Contains (v ∷ us) target

    longest : (xs : List RouterId) → ((u : RouterId) → In xs u → (n : ℕ) × PassWithin u n)
        → (n : ℕ) × ((u : RouterId) → In xs u → PassWithin u n)
    longest [] each = (0, λ u i. absurd i)
    longest (x ∷ xs) each =
        let first = each x (inl refl) in
        let rest = longest xs (λ u i. each u (inr i)) in (
          first.0 + rest.0,
          λ u. ⊎_elim
              (λ p. subst (λ (v : RouterId). PassWithin v (first.0 + rest.0)) p (λ us last walk long. first.1 us last walk (omega arith)))
              (λ i us last walk long. rest.1 u i us last walk (omega arith)),
        )

    later : (v u : RouterId) (us : List RouterId) → Contains (u ∷ us) target → Contains (v ∷ u ∷ us) target
    later v u us c = Contains-from_In (v ∷ u ∷ us) target (inr (In-from_Contains (u ∷ us) target c))

    module _ (v : RouterId) (ends : ends_walks graph v ≡ false) (each : (u : RouterId) → In (next_in graph v) u → IsPassed graph u target) where
      ended : (us : List RouterId) (last : RouterId) → IsWalk (next_in graph) v us last → ends_walks graph last ≡ true → Contains (v ∷ us) target
      ended [] last walk end = absurd (false≢true (sym ends ∙ ap (ends_walks graph) walk ∙ end))
      ended (u ∷ us) last walk end = later v u us ((each u (In-from_Contains (next_in graph v) u walk.0)).ended us last walk.1 end)

      endless : (n : ℕ) → ((u : RouterId) → In (next_in graph v) u → PassWithin u n) → PassWithin v (n + 1)
      endless n all [] last walk long = absurd (omega arith)
      endless n all (u ∷ us) last walk long = later v u us (all u (In-from_Contains (next_in graph v) u walk.0) us last walk.1 (omega arith))

      -- a router that sends only to such routers is one
      passed_on : IsPassed graph v target
      passed_on =
          let far = longest (next_in graph v) (λ u i. (each u i).endless) in
          record { ended = ended; endless = (far.0 + 1, endless far.0 far.1) }

    here : (us : List RouterId) → Contains (target ∷ us) target
    here us = Contains-from_In (target ∷ us) target (inl refl)

    -- walks from the target pass it
    itself : IsPassed graph target target
    itself = record { ended = λ us last walk end. here us; endless = (0, λ us last walk long. here us) }

    -- the target alone
    pub sure_first : (keys : List RouterId) → keys ≡ insert_key router_cmp [] target → AreSure graph target keys
    sure_first keys is = record {
      passed = λ v c. ⊎_elim
          (λ i. absurd i)
          (λ p. subst (λ (x : RouterId). IsPassed graph x target) p itself)
          (insert-In router_total router_exact [] target v
          (In-from_Contains (insert_key router_cmp [] target) v (subst (λ (rs : List RouterId). Contains rs v) is c)));
    }

    pub has_first : (keys : List RouterId) → keys ≡ insert_key router_cmp [] target → Contains keys target
    has_first keys is = subst (λ (rs : List RouterId). Contains rs target) (sym is)
        (Contains-from_In (insert_key router_cmp [] target) target (In-insert router_total router_exact [] target target (inr refl)))

    sure_more : (old new : List RouterId) (router : RouterId) → AreSure graph target old → new ≡ insert_key router_cmp old router
        → is_sure graph old router ≡ true → AreSure graph target new
    sure_more old new router are is h = record {
      passed = λ v c. ⊎_elim
          (λ i. are.passed v (Contains-from_In old v i))
          (λ p. subst (λ (x : RouterId). IsPassed graph x target) p
          (let means = sure_means old router h in passed_on router means.0 (λ u i. are.passed u (Contains-from_In old u (means.1 u i)))))
          (insert-In router_total router_exact old router v
          (In-from_Contains (insert_key router_cmp old router) v (subst (λ (rs : List RouterId). Contains rs v) is c)));
    }

  -- ---- one router after another

  pub adds_no_router : (sure : List RouterId) → Adds graph [] sure sure
  adds_no_router sure = record {
    sure = λ target are. are;
    kept = λ v c. c;
    more = omega arith;
    settled = λ same. (refl, All-from_recursion (IsSettled graph sure) [] tt);
  }

  pub adds_none : (router : RouterId) (sure : List RouterId) → IsSettled graph sure router → Adds graph (router ∷ []) sure sure
  adds_none router sure is = record {
    sure = λ target are. are;
    kept = λ v c. c;
    more = omega arith;
    settled = λ same. (refl, All-from_recursion (IsSettled graph sure) (router ∷ []) (is, tt));
  }

  pub adds_one : (router : RouterId) (old new : List RouterId) → new ≡ insert_key router_cmp old router → length new ≡ length old + 1
      → is_sure graph old router ≡ true → Adds graph (router ∷ []) old new
  adds_one router old new is count h = record {
    sure = λ target are. sure_more target old new router are is h;
    kept = λ v c. subst (λ (rs : List RouterId). Contains rs v) (sym is)
        (Contains-from_In (insert_key router_cmp old router) v
        (In-insert router_total router_exact old router v (inl (In-from_Contains old v c))));
    more = omega arith;
    settled = λ same. absurd (omega arith);
  }

  pub adds_then : (routers : List RouterId) (router : RouterId) (old mid new : List RouterId) → Adds graph routers old mid
      → Adds graph (router ∷ []) mid new → Adds graph (routers ++ router ∷ []) old new
  adds_then routers router old mid new one two =
      let low : length old ≤ length mid = one.more in
      let high : length mid ≤ length new = two.more in
      record {
        sure = λ target are. two.sure target (one.sure target are);
        kept = λ v c. two.kept v (one.kept v c);
        more = omega arith;
        settled = λ same.
            (let f = one.settled (omega arith) in
            let s = two.settled (omega arith) in (
              s.0 ∙ f.0,
              All-append (IsSettled graph new) routers (router ∷ []) (subst (λ (rs : List RouterId). All (IsSettled graph rs) routers) (sym s.0) f.1) s.1,
            ));
      }

  -- ---- all of them

  module _ (target start : RouterId) (routers sure : List RouterId) (reached : AreReached (next_in graph) start routers)
      (settled : All (IsSettled graph sure) routers) (has : Contains sure target) where
    -- a walk that does not pass the target, to a router that ends walks, or of this number of steps and more
    abbrev Misses : RouterId → ℕ → Type 0
    Misses v n =
        (us : List RouterId) × (last : RouterId) × IsWalk (next_in graph) v us last × (Contains (v ∷ us) target → ⊥)
        × ((ends_walks graph last ≡ true) ⊎ (n ≤ length us))

    other : (v : RouterId) → (In sure v → ⊥) → (v ≡ target → ⊥)
    other v out p = out (subst (λ (x : RouterId). In sure x) (sym p) (In-from_Contains sure target has))

    alone : (v : RouterId) → (In sure v → ⊥) → Contains (v ∷ []) target → ⊥
    alone v out c = ⊎_elim (λ p. other v out p) (λ i. absurd i) (In-from_Contains (v ∷ []) target c)

    before : (v u : RouterId) (us : List RouterId) → (In sure v → ⊥) → (Contains (u ∷ us) target → ⊥) → Contains (v ∷ u ∷ us) target → ⊥
    before v u us out rest c =
        ⊎_elim (λ p. other v out p) (λ i. rest (Contains-from_In (u ∷ us) target i)) (In-from_Contains (v ∷ u ∷ us) target c)

    -- steps from routers that are reached lead to such routers
    reached_on : (v u : RouterId) → Contains routers v → In (next_in graph v) u → Contains routers u
    reached_on v u c i =
        let walk = (reached.members v).0 c in
        (reached.members u).1 (walk.0 ++ u ∷ [], walk_on (next_in graph) walk.0 start v u walk.1 (Contains-from_In (next_in graph v) u i))

    onward : (v : RouterId) → Contains routers v → (In sure v → ⊥)
        → (ends_walks graph v ≡ true) ⊎ ((u : RouterId) × In (next_in graph v) u × (In sure u → ⊥))
    onward v c out =
        ⊎_elim
        (λ h. absurd (out (has_In sure v h)))
        (λ h. ⊎_elim (λ end. inl end) (λ w. inr (w.0, w.1, λ i. false≢true (sym w.2 ∙ In_has sure w.0 i))) (unsure_means sure v h))
        (All-contains (IsSettled graph sure) routers v settled c)

    misses : (n : ℕ) (v : RouterId) → Contains routers v → (In sure v → ⊥) → Misses v n
    misses zero v c out = ([], v, refl, alone v out, inr (omega arith))
    misses (suc n) v c out = by (λ u at away. misses n u at away) (onward v c out)
      where
        by : ((u : RouterId) → Contains routers u → (In sure u → ⊥) → Misses u n)
            → (ends_walks graph v ≡ true) ⊎ ((u : RouterId) × In (next_in graph v) u × (In sure u → ⊥)) → Misses v (suc n)
        by later (inl end) = ([], v, refl, alone v out, inl end)
        by later (inr w) =
            let m = later w.0 (reached_on v w.0 c w.1) w.2 in (
              w.0 ∷ m.0,
              m.1,
              (Contains-from_In (next_in graph v) w.0 w.1, m.2),
              before v w.0 m.0 out m.3,
              ⊎_elim (λ end. inl end) (λ (long : n ≤ length m.0). inr (omega arith)) m.4,
            )

    not_passed : (In sure start → ⊥) → IsPassed graph start target → ⊥
    not_passed out p =
        let m = misses p.endless.0 start ((reached.members start).1 ([], refl)) out in
        m.3 (⊎_elim (λ end. p.ended m.0 m.1 m.2 end) (λ long. p.endless.1 m.0 m.1 m.2 long) m.4)

    -- the test of the start decides
    pub passed_where : (b : Bool) → b ≡ has_router sure start → AreSure graph target sure → (b ≡ true) ↔ IsPassed graph start target
    passed_where b is are = (
      λ yes. are.passed start (Contains-from_In sure start (has_In sure start (sym is ∙ yes))),
      λ p. by (has_router sure start) refl p,
    )
      where
        by : (c : Bool) → has_router sure start ≡ c → IsPassed graph start target → b ≡ true
        by true has_start p = is ∙ has_start
        by false has_start p = absurd (not_passed (λ i. false≢true (sym has_start ∙ In_has sure start i)) p)
