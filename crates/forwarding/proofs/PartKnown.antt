-- The routers that are known on the way of packets, and those that are still missing.
use Rattle.std.proofs.Common.{◌≡◌, ℕ, Bool, true, false, cond, List, [], ◌∷◌, map, Option, None, Some, length, refl, sym, ap, subst, ◌∙◌, inl, inr}
use Rattle.std.specs.Prelude.{◌&&◌, is_none, is_some}
use Rattle.std.specs.Cmp.{Equal-is, unsigned_ties}
use Rattle.std.specs.List.{find, insert}
use Rattle.std.specs.List.Sorted.{IsStrictlySortedBy}
use Rattle.std.specs.Option.{option_map, option_map_or}
use Rattle.std.specs.Ordering.{eq_by_cmp}
use Rattle.std.proofs.lemmas.Bool.{eq-eqb, true≢false}
use Rattle.std.proofs.lemmas.List.{length-map}
use Rattle.lsa_codec.specs.Order.{router_cmp}
use Rattle.lsa_codec.specs.declared.address.Addr.{Addr}
use Rattle.lsa_codec.specs.declared.address.RouterId.{RouterId}
use Rattle.lsa_codec.proofs.OrderLemmas.{router_exact}
use Rattle.lsdb.specs.Lists.{Lists}
use Rattle.area_graph.proofs.MemberLemmas.{In, In-from_Contains}
use Rattle.routing_table.specs.Routers.{attached_routers}
use Rattle.forwarding.specs.Graphs.{IsForwardingFrom, StepValue, graph_of, graph_over, next_in, routers_of, routes_at, step_at, step_of, ways_by}
use Rattle.forwarding.specs.Matches.{RouterValue, router_in}
use Rattle.hop_ends.specs.Owners.{AreGraphsOf, GraphsValue}
use Rattle.forwarding.specs.Walks.{Reaches}
use Rattle.hop_ends.specs.Ways.{routers_over}
use Rattle.forwarding.specs.steps.OnTheWay.{IsFirstMissing, IsPart, is_among, is_missing}
use Rattle.forwarding.proofs.Insertions.{find_insert_other, find_insert_same, map_insert, passes_first}
use Rattle.forwarding.proofs.SameWalkLemmas.{reaches_back}

same_exact : (a b : RouterId) → eq_by_cmp router_cmp a b ≡ true → a ≡ b
same_exact a b h = router_exact a b ((Equal-is (router_cmp a b)).0 h)

same_self : (a : RouterId) → eq_by_cmp router_cmp a a ≡ true
same_self a = sym (unsigned_ties a.0 a.0) ∙ eq-eqb a.0 a.0 refl

-- the first that is missing is attached, and not in the graph
pub first_missing_is : (attached : List RouterId) (graph : List StepValue) (start router : RouterId)
    → IsFirstMissing attached graph start (Some router) → (step_at graph router ≡ None) × (is_among attached router ≡ true)
first_missing_is attached graph start router first =
    by (step_at graph router) (is_among attached router) refl refl
    (passes_first (is_missing attached graph) first.0 router (sym first.2))
  where
    by : (o : Option StepValue) (b : Bool) → step_at graph router ≡ o → is_among attached router ≡ b → is_missing attached graph router ≡ true
        → (step_at graph router ≡ None) × (is_among attached router ≡ true)
    by None true none is there = (none, is)
    by None false none is there =
        absurd (true≢false (sym there ∙ ap (λ (o : Option StepValue). is_none o && is_among attached router) none ∙ ap (λ (b : Bool). true && b) is))
    by (Some s) b some is there =
        absurd (true≢false (sym there ∙ ap (λ (o : Option StepValue). is_none o && is_among attached router) some))

module _ (db : Lists) (address : Addr) where
  same_ids : (routers : List RouterValue) → map (λ (s : StepValue). s.router) (graph_over db address routers) ≡ map (λ (r : RouterValue). r.router) routers
  same_ids [] = refl
  same_ids (r ∷ rs) = ap (λ (ids : List RouterId). r.router ∷ ids) (same_ids rs)

  -- the step of a router in the graph of some routers
  pub step_over : (routers : List RouterValue) (router : RouterId)
      → step_at (graph_over db address routers) router ≡ option_map (step_of db address) (routes_at routers router)
  step_over [] router = refl
  step_over (r ∷ rs) router = by (eq_by_cmp router_cmp router r.router) (step_over rs router)
    where
      by : (b : Bool) → step_at (graph_over db address rs) router ≡ option_map (step_of db address) (routes_at rs router)
          → cond b (Some (step_of db address r)) (step_at (graph_over db address rs) router)
          ≡ option_map (step_of db address) (cond b (Some r) (routes_at rs router))
      by true rest = refl
      by false rest = rest

  -- what the entries of one of these routers come from
  known_in : (ids : List RouterId) (router : RouterId)
      → routes_at (map (router_in db) ids) router ≡ cond (is_among ids router) (Some (router_in db router)) None
  known_in [] router = refl
  known_in (id ∷ ids) router = by (eq_by_cmp router_cmp router id) refl (known_in ids router)
    where
      by : (b : Bool) → eq_by_cmp router_cmp router id ≡ b
          → routes_at (map (router_in db) ids) router ≡ cond (is_among ids router) (Some (router_in db router)) None
          → cond b (Some (router_in db id)) (routes_at (map (router_in db) ids) router)
          ≡ cond (is_some (cond b (Some id) (find (λ r. eq_by_cmp router_cmp router r) ids))) (Some (router_in db router)) None
      by true is rest = ap (λ (r : RouterId). Some (router_in db r)) (sym (same_exact router id is))
      by false is rest = rest

  -- no router is known at first
  pub none_known : (routers : List RouterValue) (graph : List StepValue) → routers ≡ [] → graph ≡ [] → IsPart db address routers graph
  none_known routers graph none empty = record {
    steps = empty ∙ ap (graph_over db address) (sym none);
    each = λ router routes found. absurd (absent router routes (sym (ap (λ rs. routes_at rs router) none) ∙ found));
  }
    where
      absent : (router : RouterId) (routes : RouterValue) → None ≡ Some routes → ⊥
      absent router routes h = cc

  module _ (routers : List RouterValue) (graph : List StepValue) (part : IsPart db address routers graph) where
    step_known : (router : RouterId) → step_at graph router ≡ option_map (step_of db address) (routes_at routers router)
    step_known router = ap (λ g. step_at g router) part.steps ∙ step_over routers router

    pub as_long : length graph ≡ length routers
    as_long = ap (λ g. length g) part.steps ∙ length-map routers (step_of db address)

    -- they stand in order where the graph's routers do
    pub sorted_known : IsStrictlySortedBy router_cmp (map (λ s. s.router) graph) → IsStrictlySortedBy router_cmp (map (λ r. r.router) routers)
    sorted_known s =
        subst (λ (ids : List RouterId). IsStrictlySortedBy router_cmp ids)
        (ap (λ g. map (λ s. s.router) g) part.steps ∙ same_ids routers) s

    -- what has no step is not known
    unknown : (router : RouterId) → step_at graph router ≡ None → routes_at routers router ≡ None
    unknown router none = by (routes_at routers router) (sym (step_known router) ∙ none)
      where
        by : (o : Option RouterValue) → option_map (step_of db address) o ≡ None → o ≡ None
        by None h = refl
        by (Some r) h = absurd (cc)

    -- one router more
    pub one_known_more : (router : RouterId) (place : ℕ) (routes : RouterValue) (step : StepValue) (routers' : List RouterValue)
        (graph' : List StepValue) → is_among (attached_routers db) router ≡ true → step_at graph router ≡ None
        → routes ≡ router_in db router → step ≡ step_of db address routes
        → routers' ≡ insert routers place routes → graph' ≡ insert graph place step → IsPart db address routers' graph'
    one_known_more router place routes step routers' graph' attached none is_routes is_step more_routers more_steps = record {
      steps = more_steps ∙ ap (λ g. insert g place step) part.steps
          ∙ ap (λ s. insert (graph_over db address routers) place s) is_step
          ∙ sym (map_insert (step_of db address) routers place routes)
          ∙ ap (graph_over db address) (sym more_routers);
      each = λ other found is. by other found (eq_by_cmp router_cmp other routes.router) refl (sym (ap (λ rs. routes_at rs other) more_routers) ∙ is);
    }
      where
        own : routes.router ≡ router
        own = ap (λ (r : RouterValue). r.router) is_routes

        by : (other : RouterId) (found : RouterValue) (b : Bool) → eq_by_cmp router_cmp other routes.router ≡ b
            → routes_at (insert routers place routes) other ≡ Some found
            → (found ≡ router_in db other) × (is_among (attached_routers db) other ≡ true)
        by other found true is at =
            let one : other ≡ router = same_exact other routes.router is ∙ own in
            let there = find_insert_same (λ r. eq_by_cmp router_cmp other r.router) routers place routes
            (subst (λ (r : RouterId). routes_at routers r ≡ None) (sym one) (unknown router none)) is in
            let found_is : found ≡ routes = cc in (
              found_is ∙ is_routes ∙ ap (router_in db) (sym one),
              subst (λ (r : RouterId). is_among (attached_routers db) r ≡ true) (sym one) attached,
            )
        by other found false is at =
            part.each other found (sym (find_insert_other (λ r. eq_by_cmp router_cmp other r.router) routers place routes is) ∙ at)

    -- ---- where none is missing

    module _ (start : RouterId) (missing : IsFirstMissing (attached_routers db) graph start None) where
      none_missing : (xs : List RouterId) → find (is_missing (attached_routers db) graph) xs ≡ None → (router : RouterId) → In xs router
          → is_missing (attached_routers db) graph router ≡ false
      none_missing [] none router i = absurd i
      none_missing (x ∷ xs) none router i =
          by (is_missing (attached_routers db) graph x) refl none i (λ given j. none_missing xs given router j)
        where
          by : (b : Bool) → is_missing (attached_routers db) graph x ≡ b
              → cond b (Some x) (find (is_missing (attached_routers db) graph) xs) ≡ None → In (x ∷ xs) router
              → (find (is_missing (attached_routers db) graph) xs ≡ None → In xs router → is_missing (attached_routers db) graph router ≡ false)
              → is_missing (attached_routers db) graph router ≡ false
          by true is given at rest = absurd (cc)
          by false is given (inl q) rest = subst (λ (r : RouterId). is_missing (attached_routers db) graph r ≡ false) q is
          by false is given (inr j) rest = rest given j

      -- the routers that walks in the graph reach are known, unless they are not attached
      same_routes : (router : RouterId) → Reaches (next_in graph) start router → routes_at routers router ≡ routes_at (routers_of db) router
      same_routes router reached =
          let seen = In-from_Contains missing.0 router ((missing.1.members router).1 reached) in
          let there = none_missing missing.0 (sym missing.2) router seen in
          by (routes_at routers router) refl (is_among (attached_routers db) router) refl there
        where
          by : (o : Option RouterValue) → routes_at routers router ≡ o → (b : Bool) → is_among (attached_routers db) router ≡ b
              → is_missing (attached_routers db) graph router ≡ false → routes_at routers router ≡ routes_at (routers_of db) router
          by (Some r) is b among there =
              let e = part.each router r is in
              is ∙ ap (λ (x : RouterValue). Some x) e.0
              ∙ sym (known_in (attached_routers db) router ∙ ap (λ (t : Bool). cond t (Some (router_in db router)) None) e.1)
          by None is true among there =
              absurd (true≢false (sym (ap (λ (t : Bool). is_none (step_at graph router) && t) among
              ∙ ap (λ (s : Option StepValue). is_none s && true) (step_known router ∙ ap (option_map (step_of db address)) is)) ∙ there))
          by None is false among there =
              is ∙ sym (known_in (attached_routers db) router ∙ ap (λ (t : Bool). cond t (Some (router_in db router)) None) among)

      same_next : (router : RouterId) → Reaches (next_in graph) start router → next_in (graph_of db address) router ≡ next_in graph router
      same_next router reached =
          ap (λ (s : Option StepValue). routers_over (option_map_or (ways_by graph) s []))
          (step_over (routers_of db) router ∙ ap (option_map (step_of db address)) (sym (same_routes router reached)) ∙ sym (step_known router))

      -- all that packets pass is known
      pub all_known : (graphs : GraphsValue) → AreGraphsOf db graphs → IsForwardingFrom db start address (record { graphs = graphs; routers = routers })
      all_known graphs are = record {
        graphs = are;
        reached = λ router reached. same_routes router (reaches_back (next_in graph) (next_in (graph_of db address)) start same_next router reached);
      }
