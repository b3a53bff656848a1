-- One LSA more on which a route rests, or none; and one step more.
use Rattle.std.proofs.Common.{◌≡◌, ℕ, true, false, List, None, Some, sym, ap, ◌∙◌, subst, ◌⊎◌}
use Rattle.std.specs.Prelude.{◌↔◌}
use Rattle.std.specs.BTreeSet.{insert_key}
use Rattle.std.specs.List.{Contains}
use Rattle.std.proofs.lemmas.Bool.{false≢true}
use Rattle.lsa_codec.specs.declared.address.Addr.{Addr}
use Rattle.lsa_codec.specs.declared.address.RouterId.{RouterId}
use Rattle.area_graph.specs.declared.vertex.Vertex.{Vertex}
use Rattle.area_graph.specs.declared.vertex.Vertex.TheVariants.{Router, Network}
use Rattle.area_graph.specs.Area.{vertex_of}
use Rattle.area_graph.proofs.MemberLemmas.{Some-same}
use Rattle.lsa_names.specs.LsaNames.{lsa_name}
use Rattle.lsa_names.specs.declared.lsa_name.LsaName.{LsaName}
use Rattle.least_paths.specs.declared.least_edge.LeastEdge.{LeastEdge}
use Rattle.route_candidates.specs.declared.candidate.Candidate.{Candidate}
use Rattle.route_candidates.specs.declared.target.Target.{Target}
use Rattle.route_candidates.specs.Decided.{is_used}
use Rattle.area_candidates.specs.Views.{AreaViewValue}
use Rattle.explanation.specs.WaySteps.{rest_of}
use Rattle.explanation.specs.declared.rest.Rest.{Rest}
use Rattle.explanation.specs.declared.steps.Start.{Start}
use Rattle.explanation.specs.declared.way_step.WayStep.{WayStep}
use Rattle.explanation.specs.steps.Edges.{IsStepFrom, IsStepOnward, IsToTarget, onward, step_of}
use Rattle.explanation.specs.steps.Resting.{IsByRest, IsLsaOnPaths, IsUsedRest, is_on_paths}
use Rattle.area_candidates.proofs.InsertingLemmas.{Inserts, inserts_as, inserts_nothing, inserts_one}
use Rattle.explanation.proofs.Orders.{rest_cmp, rest_exact, rest_total, step_cmp, step_exact, step_total}
use Rattle.explanation.proofs.StepsFound.{IsFrom}

-- ---- LSAs

module _ (old new : List Rest) where
  pub one_rest : (k : Rest) → new ≡ insert_key rest_cmp old k → Inserts (λ rest. rest ≡ k) old new
  one_rest k made = inserts_one rest_total rest_exact k old new made

  pub used_rest : (c : Candidate) → is_used c ≡ true → new ≡ insert_key rest_cmp old (rest_of c.lsa) → Inserts (IsUsedRest c) old new
  used_rest c used made =
      inserts_as (λ rest. rest ≡ rest_of c.lsa) (IsUsedRest c) old new (λ rest. (λ q. (used, q), λ p. p.1)) (one_rest (rest_of c.lsa) made)

  pub by_rest : (target : Target) (name : LsaName) → target.by ≡ Some name → new ≡ insert_key rest_cmp old (rest_of name)
      → Inserts (IsByRest target) old new
  by_rest target name is made =
      inserts_as (λ rest. rest ≡ rest_of name) (IsByRest target) old new
      (λ rest. (λ q. (name, is, q), λ p. p.2 ∙ ap rest_of (Some-same (sym p.1 ∙ is)))) (one_rest (rest_of name) made)

  module _ (view : AreaViewValue) (targets : List Vertex) (edges : List LeastEdge) (lsa : List ℕ) where
    pub lsa_rest : is_on_paths view.router targets edges (vertex_of lsa) ≡ true → new ≡ insert_key rest_cmp old (rest_of (lsa_name (Some view.area) lsa))
        → Inserts (IsLsaOnPaths view targets edges lsa) old new
    lsa_rest on made =
        inserts_as (λ rest. rest ≡ rest_of (lsa_name (Some view.area) lsa)) (IsLsaOnPaths view targets edges lsa) old new
        (λ rest. (λ q. (on, q), λ p. p.1)) (one_rest (rest_of (lsa_name (Some view.area) lsa)) made)

module _ (keys : List Rest) where
  pub unused_rest : (c : Candidate) → is_used c ≡ false → Inserts (IsUsedRest c) keys keys
  unused_rest c unused = inserts_nothing (IsUsedRest c) keys (λ rest p. false≢true (sym unused ∙ p.0))

  pub no_rest : (target : Target) → target.by ≡ None → Inserts (IsByRest target) keys keys
  no_rest target none = inserts_nothing (IsByRest target) keys (λ rest p. (let clash : None ≡ Some p.0 = sym none ∙ p.1 in absurd (cc)))

  pub off_rest : (view : AreaViewValue) (targets : List Vertex) (edges : List LeastEdge) (lsa : List ℕ)
      → is_on_paths view.router targets edges (vertex_of lsa) ≡ false → Inserts (IsLsaOnPaths view targets edges lsa) keys keys
  off_rest view targets edges lsa off =
      inserts_nothing (IsLsaOnPaths view targets edges lsa) keys (λ rest p. false≢true (sym off ∙ p.0))

-- ---- steps

module _ (old new : List WayStep) where
  pub one_step : (k : WayStep) → new ≡ insert_key step_cmp old k → Inserts (λ step. step ≡ k) old new
  one_step k made = inserts_one step_total step_exact k old new made

  module _ (start : Start) (network : Addr) where
    pub step_onward : (e : LeastEdge) (router : RouterId) → onward e network ≡ Some router
        → new ≡ insert_key step_cmp old (step_of start false (record { 0 = router.0 }) (Some network)) → Inserts (IsStepOnward start network e) old new
    step_onward e router is made =
        let over : RouterId → WayStep = λ r. step_of start false (record { 0 = r.0 }) (Some network) in
        inserts_as (λ step. step ≡ over router) (IsStepOnward start network e) old new
        (λ step. (λ q. (router, is, q), λ p. p.2 ∙ ap over (Some-same (sym p.1 ∙ is)))) (one_step (over router) made)

    pub step_to_target : (targets : List Vertex) → Contains targets (Network network)
        → new ≡ insert_key step_cmp old (step_of start true network None) → Inserts (IsToTarget start network targets) old new
    step_to_target targets there made =
        inserts_as (λ step. step ≡ step_of start true network None) (IsToTarget start network targets) old new
        (λ step. (λ q. (there, q), λ p. p.1)) (one_step (step_of start true network None) made)

  -- the steps over an edge out of a router
  pub steps_from : (view : AreaViewValue) (targets : List Vertex) (edges : List LeastEdge) (e : LeastEdge) (router : RouterId) → e.from ≡ Router router
      → Inserts (IsStepFrom (record { area = view.area; router = router; edge = e }) edges targets) old new
      → Inserts (IsFrom view targets edges e) old new
  steps_from view targets edges e router from ins =
      inserts_as (IsStepFrom (start router) edges targets) (IsFrom view targets edges e) old new
      (λ step. (
        λ q. (router, from, q),
        λ p. (
            subst (λ (r : RouterId). IsStepFrom (start r) edges targets step) (same_router (sym p.1 ∙ from)) p.2
            ),
      )) ins
    where
      start : RouterId → Start
      start r = record { area = view.area; router = r; edge = e }

      router_or : Vertex → RouterId
      router_or (Router r) = r
      router_or (Network n) = router

      same_router : {r s : RouterId} → Router r ≡ Router s → r ≡ s
      same_router q = ap router_or q

module _ (keys : List WayStep) where
  pub no_step_onward : (start : Start) (network : Addr) (e : LeastEdge) → onward e network ≡ None → Inserts (IsStepOnward start network e) keys keys
  no_step_onward start network e none =
      inserts_nothing (IsStepOnward start network e) keys (λ step p. (let clash : None ≡ Some p.0 = sym none ∙ p.1 in absurd (cc)))

  pub no_target : (start : Start) (network : Addr) (targets : List Vertex) → (Contains targets (Network network) → ⊥)
      → Inserts (IsToTarget start network targets) keys keys
  no_target start network targets lacks = inserts_nothing (IsToTarget start network targets) keys (λ step p. lacks p.0)

  pub no_steps_from : (view : AreaViewValue) (targets : List Vertex) (edges : List LeastEdge) (e : LeastEdge) (n : Addr) → e.from ≡ Network n
      → Inserts (IsFrom view targets edges e) keys keys
  no_steps_from view targets edges e n from =
      inserts_nothing (IsFrom view targets edges e) keys
      (λ step p. (let clash : Network n ≡ Router p.0 = sym from ∙ p.1 in absurd (cc)))
