-- Walks that come back to a router.
use Rattle.std.proofs.Common.{◌≡◌, ℕ, Bool, true, false, eqb, List, [], ◌∷◌, ◌++◌, Option, None, Some, refl, sym, ap, ◌∙◌, subst, inl, ⊎_elim}
use Rattle.std.specs.Prelude.{◌↔◌}
use Rattle.std.specs.List.{Contains, list_any}
use Rattle.std.specs.Option.{option_map_or}
use Rattle.std.specs.declared.cmp.Ordering.TheVariants.{Less}
use Rattle.std.proofs.lemmas.Bool.{eq-eqb, eqb-true}
use Rattle.lsa_codec.specs.Order.{router_cmp}
use Rattle.lsa_codec.specs.declared.address.RouterId.{RouterId}
use Rattle.lsa_codec.proofs.OrderLemmas.{router_exact, router_total}
use Rattle.area_graph.specs.Rising.{rising}
use Rattle.area_graph.proofs.MemberLemmas.{In, Contains-from_In, In-cases, In-filter_map, In-from_Contains, In-left, In-list_any, In-right, filter_map-In, list_any-In}
use Rattle.area_graph.proofs.RisingLemmas.{Contains-rising, rising-pairs}
use Rattle.forwarding.specs.Graphs.{StepValue, next_in, ways_at}
use Rattle.forwarding.specs.Walks.{AreReached, Goes, IsLess, IsLoopOf, IsOnCycle, IsWalk, Reaches}
use Rattle.hop_ends.specs.Ways.{router_over}
use Rattle.forwarding.specs.steps.Looping.{AreBack, leads_to, sends_to}
use Rattle.forwarding.proofs.Rounded.{less_pairs}
use Rattle.forwarding.proofs.Walked.{AllPairs-from, InPairs-from, walk_last, walk_push}

module _ {V : Type 0} (next : V → List V) where
  -- a walk and one step more
  pub goes_on : (us : List V) (v u w : V) → IsWalk next v us u → In (next u) w → Goes next v w
  goes_on [] v u w p i = (w, Contains-from_In (next v) w (subst (λ (x : V). In (next x) w) (sym p) i), ([], refl))
  goes_on (x ∷ us) v u w p i = (x, p.0, (us ++ w ∷ [], walk_push next us x u w p.1 i))

  -- a walk from a vertex on a cycle may have a step more
  pub goes_from : (v w : V) → IsOnCycle next v → Reaches next v w → Goes next v w
  goes_from v w cycle ([], p) = subst (λ (x : V). Goes next v x) p cycle
  goes_from v w cycle (x ∷ us, p) = (x, p.0, (us, p.1))

  pub goes_to : (v w : V) → IsOnCycle next w → Reaches next v w → Goes next v w
  goes_to v w cycle ([], p) = subst (λ (x : V). Goes next x w) (sym p) cycle
  goes_to v w cycle (x ∷ us, p) = (x, p.0, (us, p.1))

  pub reaches_by : (v w : V) → Goes next v w → Reaches next v w
  reaches_by v w (u, c, (us, p)) = (u ∷ us, (c, p))

module _ (graph : List StepValue) where
  leads_is : (router : RouterId) (o : Option RouterId) → option_map_or (λ other. eqb other.0 router.0) o false ≡ true → o ≡ Some router
  leads_is router None h = absurd (cc)
  leads_is router (Some other) h = ap (λ (n : ℕ). let r : RouterId = record { 0 = n } in Some r) (eqb-true other.0 router.0 h)

  -- a router sends to another one where a step leads there
  pub sends_In : (to from : RouterId) → sends_to graph to from ≡ true → In (next_in graph from) to
  sends_In to from h =
      let f = list_any-In (leads_to to) (ways_at graph from) h in
      In-filter_map router_over (ways_at graph from) f.0 to f.1 (leads_is to (router_over f.0) f.2)

  pub In_sends : (to from : RouterId) → In (next_in graph from) to → sends_to graph to from ≡ true
  In_sends to from i =
      let f = filter_map-In router_over (ways_at graph from) to i in
      In-list_any (leads_to to) (ways_at graph from) f.0 f.1
      (ap (λ (o : Option RouterId). option_map_or (λ other. eqb other.0 to.0) o false) f.2 ∙ eq-eqb to.0 to.0 refl)

  module _ (router : RouterId) (reached : List RouterId) (are : AreReached (next_in graph) router reached) where
    pub cycle_found : list_any (sends_to graph router) reached ≡ true → IsOnCycle (next_in graph) router
    cycle_found h =
        let f = list_any-In (sends_to graph router) reached h in
        let walk = (are.members f.0).0 (Contains-from_In reached f.0 f.1) in
        goes_on (next_in graph) walk.0 router f.0 router walk.1 (sends_In router f.0 f.2)

    pub cycle_sent : IsOnCycle (next_in graph) router → list_any (sends_to graph router) reached ≡ true
    cycle_sent (u, c, (us, p)) =
        let last = walk_last (next_in graph) u us router router (c, p) in
        let there = (are.members last.before).1 (last.steps, last.walk) in
        In-list_any (sends_to graph router) reached last.before (In-from_Contains reached last.before there) (In_sends router last.before last.step)

    -- the routers reached from which walks come back are the loop
    pub loop_is : IsOnCycle (next_in graph) router → (back found : List RouterId) → AreBack graph router reached back
        → found ≡ rising router_cmp back → IsLoopOf (next_in graph) router found
    loop_is cycle back found are_back is = subst (λ (xs : List RouterId). IsLoopOf (next_in graph) router xs) (sym is) (record {
      members = λ other. (
        λ h. (let b = (are_back other).0 ((Contains-rising router_total router_exact back other).0 h) in
            (goes_from (next_in graph) router other cycle ((are.members other).0 b.0), goes_to (next_in graph) other router cycle b.1)),
        λ both. (Contains-rising router_total router_exact back other).1
            ((are_back other).1 ((are.members other).1 (reaches_by (next_in graph) router other both.0), reaches_by (next_in graph) other router both.1)),
      );
      order = AllPairs-from IsLess (rising router_cmp back)
          (less_pairs (rising router_cmp back) (InPairs-from (λ v w. router_cmp v w ≡ Less) (rising router_cmp back) (rising-pairs router_total router_exact back)));
    })

  module _ (router : RouterId) (routers found : List RouterId) (are : AreBack graph router routers found) (other : RouterId) where
    -- one router more, from which a walk leads back
    pub back_yes : Reaches (next_in graph) other router → AreBack graph router (routers ++ other ∷ []) (found ++ other ∷ [])
    back_yes walk = λ r. (there r, back r)
      where
        there : (r : RouterId) → Contains (found ++ other ∷ []) r → Contains (routers ++ other ∷ []) r × Reaches (next_in graph) r router
        there r c =
            ⊎_elim
            (λ i. (let b = (are r).0 (Contains-from_In found r i) in
            (Contains-from_In (routers ++ other ∷ []) r (In-left routers (other ∷ []) r (In-from_Contains routers r b.0)), b.1)))
            (λ one. ⊎_elim
            (λ p. (
              Contains-from_In (routers ++ other ∷ []) r (In-right routers (other ∷ []) r (inl p)),
              subst (λ (x : RouterId). Reaches (next_in graph) x router) p walk,
            ))
            (λ z. absurd z) one)
            (In-cases found (other ∷ []) r (In-from_Contains (found ++ other ∷ []) r c))

        back : (r : RouterId) → Contains (routers ++ other ∷ []) r × Reaches (next_in graph) r router → Contains (found ++ other ∷ []) r
        back r both =
            ⊎_elim
            (λ i. Contains-from_In (found ++ other ∷ []) r
            (In-left found (other ∷ []) r (In-from_Contains found r ((are r).1 (Contains-from_In routers r i, both.1)))))
            (λ one. Contains-from_In (found ++ other ∷ []) r (In-right found (other ∷ []) r one))
            (In-cases routers (other ∷ []) r (In-from_Contains (routers ++ other ∷ []) r both.0))

    -- one router more, from which none does
    pub back_no : ¬ Reaches (next_in graph) other router → AreBack graph router (routers ++ other ∷ []) found
    back_no none = λ r. (there r, back r)
      where
        there : (r : RouterId) → Contains found r → Contains (routers ++ other ∷ []) r × Reaches (next_in graph) r router
        there r c =
            let b = (are r).0 c in
            (Contains-from_In (routers ++ other ∷ []) r (In-left routers (other ∷ []) r (In-from_Contains routers r b.0)), b.1)

        back : (r : RouterId) → Contains (routers ++ other ∷ []) r × Reaches (next_in graph) r router → Contains found r
        back r both =
            ⊎_elim
            (λ i. (are r).1 (Contains-from_In routers r i, both.1))
            (λ one. ⊎_elim (λ p. absurd (none (subst (λ (x : RouterId). Reaches (next_in graph) x router) (sym p) both.1))) (λ z. absurd z) one)
            (In-cases routers (other ∷ []) r (In-from_Contains (routers ++ other ∷ []) r both.0))

  pub back_none : (router : RouterId) → AreBack graph router [] []
  back_none router = λ r. (λ c. absurd (In-from_Contains [] r c), λ both. absurd (In-from_Contains [] r both.0))

  -- what is among the routers reached is what a walk reaches
  pub reaches_is : (from to : RouterId) (reached : List RouterId) → AreReached (next_in graph) from reached
      → (b : Bool) → b ≡ list_any (λ r. eqb r.0 to.0) reached → (b ≡ true) ↔ Reaches (next_in graph) from to
  reaches_is from to reached are b is = (
    λ yes. (let f = list_any-In (λ (r : RouterId). eqb r.0 to.0) reached (sym is ∙ yes) in
        let same : f.0 ≡ to = ap (λ (n : ℕ). let r : RouterId = record { 0 = n } in r) (eqb-true (f.0).0 to.0 f.2) in
        (are.members to).0 (Contains-from_In reached to (subst (λ (r : RouterId). In reached r) same f.1))),
    λ walk. is ∙ In-list_any (λ (r : RouterId). eqb r.0 to.0) reached to (In-from_Contains reached to ((are.members to).1 walk)) (eq-eqb to.0 to.0 refl),
  )
