-- The next level of a forwarding graph makes the next round.
use Rattle.std.proofs.Common.{◌≡◌, ℕ, ◌+◌, Bool, true, false, cond, List, [], ◌∷◌, ◌++◌, length, Option, None, Some, refl, sym, ap, ◌∙◌, subst, arith}
use Rattle.std.proofs.Common.{◌⊎◌, inl, inr}
use Rattle.std.specs.Cmp.{Equal-is, ranked, unsigned_ties}
use Rattle.std.specs.List.{flat_map}
use Rattle.std.specs.Ordering.{eq_by_cmp}
use Rattle.std.specs.declared.cmp.Ordering.TheVariants.{Less}
use Rattle.std.proofs.lemmas.Bool.{eq-eqb, false≢true}
use Rattle.lsa_codec.specs.Order.{router_cmp}
use Rattle.lsa_codec.specs.declared.address.RouterId.{RouterId}
use Rattle.lsa_codec.proofs.OrderLemmas.{router_exact, router_total}
use Rattle.area_graph.specs.Rising.{rising}
use Rattle.area_graph.proofs.MemberLemmas.{In, In-filter_map, In-flat_map, In-list_any, Some-same, filter_map-In, flat_map-In, list_any-In}
use Rattle.area_graph.proofs.RisingLemmas.{In-rising, rising-In, rising-pairs}
use Rattle.forwarding.specs.Graphs.{StepValue, next_in, ways_at}
use Rattle.hop_ends.specs.Ways.{router_over}
use Rattle.forwarding.specs.steps.Levels.{has_router, next_level, unseen, unseen_from, unseen_over}
use Rattle.forwarding.specs.Walks.{AreReached, IsLess}
use Rattle.forwarding.proofs.Rounds.{IsRound, all_reached, first_round, next_round}
use Rattle.forwarding.proofs.Walked.{InPairs, InPairs-from}

-- ---- members of a set of routers

same_exact : (a b : RouterId) → eq_by_cmp router_cmp a b ≡ true → a ≡ b
same_exact a b h = router_exact a b ((Equal-is (router_cmp a b)).0 h)

same_self : (a : RouterId) → eq_by_cmp router_cmp a a ≡ true
same_self a = sym (unsigned_ties a.0 a.0) ∙ eq-eqb a.0 a.0 refl

pub has_In : (routers : List RouterId) (router : RouterId) → has_router routers router ≡ true → In routers router
has_In routers router h =
    let f = list_any-In (eq_by_cmp router_cmp router) routers h in
    subst (λ (r : RouterId). In routers r) (sym (same_exact router f.0 f.2)) f.1

pub In_has : (routers : List RouterId) (router : RouterId) → In routers router → has_router routers router ≡ true
In_has routers router i = In-list_any (eq_by_cmp router_cmp router) routers router i (same_self router)

pub less_from : (a b : RouterId) → router_cmp a b ≡ Less → IsLess a b
less_from a b h = ranked a.0 b.0 Less (sym h)

pub less_pairs : (xs : List RouterId) → InPairs (λ v w. router_cmp v w ≡ Less) xs → InPairs IsLess xs
less_pairs [] s = tt
less_pairs (x ∷ xs) s = (λ y i. less_from x y (s.0 y i), less_pairs xs s.1)

-- ---- the next level

module _ (graph : List StepValue) (seen level keys : List RouterId) (set : keys ≡ rising router_cmp (seen ++ level)) where
  key_In : (w : RouterId) → has_router keys w ≡ true → In (seen ++ level) w
  key_In w h = rising-In router_total router_exact (seen ++ level) w (subst (λ (ks : List RouterId). In ks w) set (has_In keys w h))

  In_key : (w : RouterId) → In (seen ++ level) w → has_router keys w ≡ true
  In_key w i = In_has keys w (subst (λ (ks : List RouterId). In ks w) (sym set) (In-rising router_total router_exact (seen ++ level) w i))

  abbrev found : List RouterId
  found = flat_map (unseen_from graph keys) level

  -- what was not seen, of a way
  unseen_is : (o : Option RouterId) (w : RouterId) → unseen keys o ≡ Some w → (o ≡ Some w) × (has_router keys w ≡ false)
  unseen_is None w h = absurd (cc)
  unseen_is (Some router) w h = by (has_router keys router) refl h
    where
      by : (b : Bool) → has_router keys router ≡ b → cond b None (Some router) ≡ Some w → (Some router ≡ Some w) × (has_router keys w ≡ false)
      by true is k = absurd (cc)
      by false is k = (k, ap (has_router keys) (sym (Some-same k)) ∙ is)

  new_only : (w : RouterId) → In (next_level graph keys level) w
      → (v : RouterId) × In level v × In (next_in graph v) w × (In (seen ++ level) w → ⊥)
  new_only w i =
      let f = flat_map-In (unseen_from graph keys) level w (rising-In router_total router_exact found w i) in
      let g = filter_map-In (unseen_over keys) (ways_at graph f.0) w f.2 in
      let u = unseen_is (router_over g.0) w g.2 in (
        f.0,
        f.1,
        In-filter_map router_over (ways_at graph f.0) g.0 w g.1 u.0,
        λ old. false≢true (sym u.1 ∙ In_key w old),
      )

  new_all : (v w : RouterId) → In level v → In (next_in graph v) w → In (seen ++ level) w ⊎ In (next_level graph keys level) w
  new_all v w i step = by (has_router keys w) refl
    where
      by : (b : Bool) → has_router keys w ≡ b → In (seen ++ level) w ⊎ In (next_level graph keys level) w
      by true is = inl (key_In w is)
      by false is =
          let f = filter_map-In router_over (ways_at graph v) w step in
          let fresh : unseen_over keys f.0 ≡ Some w =
          ap (unseen keys) f.2 ∙ ap (λ (b : Bool). cond b None (Some w)) is in
          inr (In-rising router_total router_exact found w
          (In-flat_map (unseen_from graph keys) level v w i (In-filter_map (unseen_over keys) (ways_at graph v) f.0 w f.1 fresh)))

  pub level_round : (start : RouterId) (n : ℕ) → IsRound (next_in graph) start n seen level
      → IsRound (next_in graph) start (n + 1) (seen ++ level) (next_level graph keys level)
  level_round start n r =
      next_round (next_in graph) start n seen level r (next_level graph keys level) new_only new_all
      (less_pairs (next_level graph keys level)
      (InPairs-from (λ v w. router_cmp v w ≡ Less) (next_level graph keys level) (rising-pairs router_total router_exact found)))

-- ---- the search

-- those reached, the set of them, and the next level
pub record IsSearch (graph : List StepValue) (start : RouterId) (reached keys level : List RouterId) : Type 0 where
  pub steps : ℕ
  pub round : IsRound (next_in graph) start steps reached level
  pub set : keys ≡ rising router_cmp reached

module _ (graph : List StepValue) (start : RouterId) where
  pub search_first : (reached keys level : List RouterId) → reached ≡ [] → keys ≡ [] → level ≡ start ∷ [] → IsSearch graph start reached keys level
  search_first reached keys level none empty one = record {
    steps = 0;
    round = subst (λ (xs : List RouterId). IsRound (next_in graph) start 0 xs level) (sym none)
        (subst (λ (xs : List RouterId). IsRound (next_in graph) start 0 [] xs) (sym one) (first_round (next_in graph) start));
    set = empty ∙ ap (rising router_cmp) (sym none);
  }

  pub search_more : (reached keys level reached' keys' level' : List RouterId) → IsSearch graph start reached keys level
      → reached' ≡ reached ++ level → keys' ≡ rising router_cmp reached' → level' ≡ next_level graph keys' level
      → IsSearch graph start reached' keys' level'
  search_more reached keys level reached' keys' level' s grown set next = record {
    steps = s.steps + 1;
    round = subst (λ (xs : List RouterId). IsRound (next_in graph) start (s.steps + 1) xs level') (sym grown)
        (subst (λ (xs : List RouterId). IsRound (next_in graph) start (s.steps + 1) (reached ++ level) xs) (sym next)
        (level_round graph reached level keys' (set ∙ ap (rising router_cmp) grown) start s.steps s.round));
    set = set;
  }

  pub search_done : (reached keys level : List RouterId) → IsSearch graph start reached keys level → level ≡ [] → AreReached (next_in graph) start reached
  search_done reached keys level s none =
      all_reached (next_in graph) start s.steps reached
      (subst (λ (xs : List RouterId). IsRound (next_in graph) start s.steps reached xs) none s.round)

pub no_items : {X : Type 0} (xs : List X) → length xs ≡ 0 → xs ≡ []
no_items [] none = refl
no_items (x ∷ xs) none = absurd (omega arith)
