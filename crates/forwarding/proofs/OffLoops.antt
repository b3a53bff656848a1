-- Routers that no loop passes.
use Rattle.std.proofs.Common.{◌≡◌, true, false, List, [], ◌∷◌, Option, None, Some, sym, ap, ◌∙◌, subst, ◌⊎◌, inl, ⊎_elim}
use Rattle.std.specs.List.{Contains, slice_get}
use Rattle.std.specs.BTreeSet.{insert_key}
use Rattle.std.specs.Option.{option_map_or}
use Rattle.lsa_codec.specs.Order.{router_cmp}
use Rattle.lsa_codec.specs.declared.address.RouterId.{RouterId}
use Rattle.lsa_codec.proofs.OrderLemmas.{router_exact, router_total}
use Rattle.area_graph.proofs.MemberLemmas.{In, Contains-from_In, In-from_Contains, Some-same, filter_map-In, list_all-In}
use Rattle.area_graph.proofs.RisingLemmas.{In-insert, insert-In}
use Rattle.forwarding.specs.Graphs.{StepValue, next_in, ways_at}
use Rattle.forwarding.specs.Walks.{IsOnCycle}
use Rattle.hop_ends.specs.Ways.{router_over}
use Rattle.forwarding.specs.steps.Levels.{has_router}
use Rattle.forwarding.specs.steps.Looping.{IsFoundFrom}
use Rattle.forwarding.specs.steps.LoopFree.{AreLoopFree, leads_into, leads_only_into}
use Rattle.forwarding.proofs.Rounded.{In_has, has_In}
use Rattle.forwarding.proofs.Walked.{stays_in}

module _ (graph : List StepValue) where
  pub loop_free_none : AreLoopFree (next_in graph) []
  loop_free_none = record {
    closed = λ v w c step. absurd (In-from_Contains [] v c);
    apart = λ v c. absurd (In-from_Contains [] v c);
  }

  module _ (loop_free new : List RouterId) (router : RouterId) (are : AreLoopFree (next_in graph) loop_free) (is : new ≡ insert_key router_cmp loop_free router)
      (fresh : has_router loop_free router ≡ false) (ends : leads_only_into graph loop_free router ≡ true) where
    -- each step from the router leads to one of those that no loop passes
    sends : (w : RouterId) → In (next_in graph router) w → In loop_free w
    sends w i =
        let f = filter_map-In router_over (ways_at graph router) w i in
        let into : leads_into loop_free f.0 ≡ true = list_all-In (leads_into loop_free) (ways_at graph router) ends f.0 f.1 in
        has_In loop_free w (sym (ap (λ (o : Option RouterId). option_map_or (λ r. has_router loop_free r) o true) f.2) ∙ into)

    stays : (v w : RouterId) → In loop_free v → In (next_in graph v) w → In loop_free w
    stays v w i step = In-from_Contains loop_free w (are.closed v w (Contains-from_In loop_free v i) (Contains-from_In (next_in graph v) w step))

    in_new : (v : RouterId) → In loop_free v → Contains new v
    in_new v i = subst (λ (rs : List RouterId). Contains rs v) (sym is) (Contains-from_In (insert_key router_cmp loop_free router) v (In-insert router_total router_exact loop_free router v (inl i)))

    from_new : (v : RouterId) → Contains new v → In loop_free v ⊎ (router ≡ v)
    from_new v c = insert-In router_total router_exact loop_free router v (In-from_Contains (insert_key router_cmp loop_free router) v (subst (λ (rs : List RouterId). Contains rs v) is c))

    -- a walk from the router does not come back to it
    no_cycle : ¬ IsOnCycle (next_in graph) router
    no_cycle (u, c, (us, p)) =
        let first : In loop_free u = sends u (In-from_Contains (next_in graph router) u c) in
        let back : In loop_free router = stays_in (next_in graph) loop_free stays us u router p first in
        let has : has_router loop_free router ≡ true = In_has loop_free router back in
        let clash : false ≡ true = sym fresh ∙ has in
        absurd (cc)

    pub loop_free_more : AreLoopFree (next_in graph) new
    loop_free_more = record {
      closed = λ v w c step. ⊎_elim
          (λ i. in_new w (stays v w i (In-from_Contains (next_in graph v) w step)))
          (λ p. in_new w (sends w (In-from_Contains (next_in graph router) w (subst (λ (x : RouterId). Contains (next_in graph x) w) (sym p) step))))
          (from_new v c);
      apart = λ v c. ⊎_elim
          (λ i. are.apart v (Contains-from_In loop_free v i))
          (λ p. subst (λ (x : RouterId). ¬ IsOnCycle (next_in graph) x) p no_cycle)
          (from_new v c);
    }

  head_in : (loop : List RouterId) (router : RouterId) → slice_get loop 0 ≡ Some router → Contains loop router
  head_in [] router at = absurd (cc)
  head_in (x ∷ xs) router at = Contains-from_In (x ∷ xs) router (inl (Some-same at))

  -- a router to which no walk comes back has no loop
  pub alone : (router : RouterId) → ¬ IsOnCycle (next_in graph) router → IsFoundFrom graph router None
  alone router none = λ loop from. none ((from.loop_of.members router).0 (head_in loop router from.least)).0

  -- a router that no loop passes is on none
  pub loop_free_alone : (loop_free : List RouterId) → AreLoopFree (next_in graph) loop_free → (router : RouterId) → has_router loop_free router ≡ true
      → IsFoundFrom graph router None
  loop_free_alone loop_free are router h = alone router (are.apart router (Contains-from_In loop_free router (has_In loop_free router h)))
