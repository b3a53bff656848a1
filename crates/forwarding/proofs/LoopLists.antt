-- Loops of more and more routers.
use Rattle.std.proofs.Common.{◌≡◌, ℕ, ◌<◌, true, false, eqb, List, [], ◌∷◌, ◌++◌, length, take, get_or, Option, None, Some, refl, sym, ap, ◌∙◌, subst, arith}
use Rattle.std.proofs.Common.{inl, inr, ⊎_elim}
use Rattle.std.specs.Cmp.{nat_cmp_is}
use Rattle.std.specs.declared.cmp.Ordering.TheVariants.{Less}
use Rattle.std.proofs.lemmas.List.{append-nil, get_or-take, get_or_default, length-take-le}
use Rattle.std.specs.List.{AllPairs, AllByRecursion, Contains, cons_option, slice_get}
use Rattle.std.specs.Option.{option_map_or}
use Rattle.std.proofs.lemmas.Bool.{eq-eqb, eqb-true, false≢true}
use Rattle.std.proofs.lemmas.List.Elements.{All-from_recursion}
use Rattle.lsa_codec.specs.Order.{router_cmp}
use Rattle.lsa_codec.specs.declared.address.RouterId.{RouterId}
use Rattle.lsa_codec.proofs.OrderLemmas.{router_exact, router_total}
use Rattle.area_graph.specs.Rising.{rising}
use Rattle.area_graph.proofs.MemberLemmas.{In, Contains-from_In, In-cases, In-from_Contains, In-left, In-right, Some-same}
use Rattle.area_graph.proofs.RisingLemmas.{In-rising, rising-In, rising-is, rising-pairs}
use Rattle.forwarding.specs.Graphs.{StepValue, next_in}
use Rattle.forwarding.specs.Walks.{AreLoops, IsLess, IsLoopFrom, IsLoopOf, StartsBefore}
use Rattle.forwarding.specs.steps.Looping.{IsFoundFrom, is_first}
use Rattle.forwarding.proofs.Rounded.{less_from}
use Rattle.forwarding.proofs.Walked.{AllPairs-from, InPairs, InPairs-append}

first_is : (router : RouterId) (o : Option RouterId) → option_map_or (λ first. eqb first.0 router.0) o false ≡ true → o ≡ Some router
first_is router None h = absurd (cc)
first_is router (Some first) h = ap (λ (n : ℕ). let r : RouterId = record { 0 = n } in Some r) (eqb-true first.0 router.0 h)

is_of : (router : RouterId) (o : Option RouterId) → o ≡ Some router → option_map_or (λ first. eqb first.0 router.0) o false ≡ true
is_of router o is = ap (λ (p : Option RouterId). option_map_or (λ first. eqb first.0 router.0) p false) is ∙ eq-eqb router.0 router.0 refl

module _ (graph : List StepValue) where
  -- ---- the loop of one router

  module _ (router : RouterId) where
    pub found_first : (loop : List RouterId) → IsLoopOf (next_in graph) router loop → is_first router loop ≡ true → IsFoundFrom graph router (Some loop)
    found_first loop of first = record { loop_of = of; least = first_is router (slice_get loop 0) first }

  -- ---- the loops of more routers

  -- the same with members by recursion
  pub record AreFrom (routers : List RouterId) (loops : List (List RouterId)) : Type 0 where
    pub each : (loop : List RouterId) → In loops loop → (router : RouterId) × In routers router × IsLoopFrom (next_in graph) router loop
    pub all : (router : RouterId) (loop : List RouterId) → In routers router → IsLoopFrom (next_in graph) router loop → In loops loop
    pub order : InPairs (StartsBefore (next_in graph)) loops

  pub from_none : AreFrom [] []
  from_none = record { each = λ loop i. absurd i; all = λ router loop i from. absurd i; order = tt }

  -- a router has one loop
  in_strict_order : (loop : List RouterId) → AllPairs IsLess loop → AllPairs (λ a b. router_cmp a b ≡ Less) loop
  in_strict_order loop pairs = λ i j d lt within.
      (let a = get_or loop i d in let b = get_or loop j d in sym (nat_cmp_is a.0 b.0 Less (pairs i j d lt within)))

  same_loop : (router : RouterId) (a b : List RouterId) → IsLoopOf (next_in graph) router a → IsLoopOf (next_in graph) router b → a ≡ b
  same_loop router a b of_a of_b =
      rising-is router_total router_exact a b (in_strict_order a of_a.order) (λ x. (
        λ h. (of_b.members x).1 ((of_a.members x).0 h),
        λ h. (of_a.members x).1 ((of_b.members x).0 h),
      ))
      ∙ sym (rising-is router_total router_exact b b (in_strict_order b of_b.order) (λ x. (λ h. h, λ h. h)))

  one_loop : (router : RouterId) (a b : List RouterId) → IsLoopFrom (next_in graph) router a → IsLoopFrom (next_in graph) router b → a ≡ b
  one_loop router a b from_a from_b = same_loop router a b from_a.loop_of from_b.loop_of

  -- where the router is not the first of its loop, no loop begins with it
  pub not_first : (router : RouterId) (found : List RouterId) → IsLoopOf (next_in graph) router found → is_first router found ≡ false
      → IsFoundFrom graph router None
  not_first router found of other = λ loop from.
      (let same : found ≡ loop = same_loop router found loop of from.loop_of in
      let first : is_first router found ≡ true = is_of router (slice_get found 0) (ap (λ (l : List RouterId). slice_get l 0) same ∙ from.least) in
      false≢true (sym other ∙ first))

  module _ (routers : List RouterId) (loops : List (List RouterId)) (are : AreFrom routers loops) (router : RouterId) where
    pub from_none_more : ((loop : List RouterId) → ¬ IsLoopFrom (next_in graph) router loop) → AreFrom (routers ++ router ∷ []) (loops ++ [])
    from_none_more none = record {
      each = λ loop i. ⊎_elim
          (λ l. (let e = are.each loop l in (e.0, In-left routers (router ∷ []) e.0 e.1, e.2)))
          (λ z. absurd z)
          (In-cases loops [] loop i);
      all = λ r loop i from. ⊎_elim
          (λ l. In-left loops [] loop (are.all r loop l from))
          (λ one. ⊎_elim (λ p. absurd (none loop (subst (λ (x : RouterId). IsLoopFrom (next_in graph) x loop) (sym p) from))) (λ z. absurd z) one)
          (In-cases routers (router ∷ []) r i);
      order = subst (λ (ls : List (List RouterId)). InPairs (StartsBefore (next_in graph)) ls) (sym (append-nil loops)) are.order;
    }

    pub from_some_more : ((other : RouterId) → In routers other → IsLess other router) → (loop : List RouterId) → IsLoopFrom (next_in graph) router loop
        → AreFrom (routers ++ router ∷ []) (loops ++ loop ∷ [])
    from_some_more below loop from = record {
      each = λ l i. ⊎_elim
          (λ j. (let e = are.each l j in (e.0, In-left routers (router ∷ []) e.0 e.1, e.2)))
          (λ one. ⊎_elim
          (λ p. (router, In-right routers (router ∷ []) router (inl refl), subst (λ (x : List RouterId). IsLoopFrom (next_in graph) router x) p from))
          (λ z. absurd z) one)
          (In-cases loops (loop ∷ []) l i);
      all = λ r l i of. ⊎_elim
          (λ j. In-left loops (loop ∷ []) l (are.all r l j of))
          (λ one. ⊎_elim
          (λ p. In-right loops (loop ∷ []) l
          (inl (sym (one_loop r l loop of (subst (λ (x : RouterId). IsLoopFrom (next_in graph) x loop) p from)))))
          (λ z. absurd z) one)
          (In-cases routers (router ∷ []) r i);
      order = InPairs-append (StartsBefore (next_in graph)) loops (loop ∷ []) are.order (λ y i. absurd i, tt) cross;
    }
      where
        cross : (x y : List RouterId) → In loops x → In (loop ∷ []) y → StartsBefore (next_in graph) x y
        cross x y i (inr z) = absurd z
        cross x y i (inl p) = λ v w at_v at_w.
            (let e = are.each x i in
            let one : e.0 ≡ v = Some-same (sym e.2.least ∙ at_v) in
            let two : router ≡ w = Some-same (sym from.least ∙ ap (λ (l : List RouterId). slice_get l 0) p ∙ at_w) in
            subst (λ (r : RouterId). IsLess r w) one (subst (λ (r : RouterId). IsLess e.0 r) two (below e.0 e.1)))

  pub from_more : (routers : List RouterId) (loops : List (List RouterId)) → AreFrom routers loops → (router : RouterId)
      → ((other : RouterId) → In routers other → IsLess other router) → (o : Option (List RouterId)) → IsFoundFrom graph router o
      → AreFrom (routers ++ router ∷ []) (loops ++ cons_option o [])
  from_more routers loops are router below None none = from_none_more routers loops are router none
  from_more routers loops are router below (Some loop) from = from_some_more routers loops are router below loop from

  -- those before a place are less than the one there
  pub below_at : (routers sorted : List RouterId) → sorted ≡ rising router_cmp routers → (i : ℕ) (d : RouterId) → i < length sorted
      → (other : RouterId) → In (take i sorted) other → IsLess other (get_or sorted i d)
  below_at routers sorted is i d lt other there =
      let c = Contains-from_In (take i sorted) other there in
      let short : length (take i sorted) ≡ i = length-take-le i sorted (omega arith) in
      let within : c.0 < length (take i sorted) = c.1 in
      let before : c.0 < i = omega arith in
      let pairs : AllPairs (λ a b. router_cmp a b ≡ Less) sorted =
      subst (λ (rs : List RouterId). AllPairs (λ a b. router_cmp a b ≡ Less) rs) (sym is) (rising-pairs router_total router_exact routers) in
      let less = less_from (get_or sorted c.0 other) (get_or sorted i other) (pairs c.0 i other before lt) in
      subst (λ (r : RouterId). IsLess r (get_or sorted i d)) (sym (get_or-take i sorted c.0 other before) ∙ c.2)
      (subst (λ (r : RouterId). IsLess (get_or sorted c.0 other) r) (get_or_default sorted i other d lt) less)

  each_from : (P : List RouterId → Type 0) (loops : List (List RouterId)) → ((loop : List RouterId) → In loops loop → P loop) → AllByRecursion P loops
  each_from P [] h = tt
  each_from P (loop ∷ loops) h = (h loop (inl refl), each_from P loops (λ l i. h l (inr i)))

  pub loops_all : (routers sorted : List RouterId) (loops : List (List RouterId)) → sorted ≡ rising router_cmp routers → AreFrom sorted loops
      → AreLoops (next_in graph) routers loops
  loops_all routers sorted loops is are = record {
    each = All-from_recursion (λ loop. (router : RouterId) × Contains routers router × IsLoopFrom (next_in graph) router loop) loops
        (each_from (λ loop. (router : RouterId) × Contains routers router × IsLoopFrom (next_in graph) router loop) loops
        (λ loop i. (let e = are.each loop i in (e.0, Contains-from_In routers e.0 (back e.0 e.1), e.2))));
    all = λ router loop c from. Contains-from_In loops loop (are.all router loop (there router (In-from_Contains routers router c)) from);
    order = AllPairs-from (StartsBefore (next_in graph)) loops are.order;
  }
    where
      back : (router : RouterId) → In sorted router → In routers router
      back router i = rising-In router_total router_exact routers router (subst (λ (rs : List RouterId). In rs router) is i)

      there : (router : RouterId) → In routers router → In sorted router
      there router i = subst (λ (rs : List RouterId). In rs router) (sym is) (In-rising router_total router_exact routers router i)
