-- The steps and the LSAs of one area more, and of all.
use Rattle.std.proofs.Common.{◌≡◌, true, List, [], ◌++◌, Option, Some, refl, sym, ap, ◌∙◌, subst, ◌⊎◌, inl, inr, ⊎_elim}
use Rattle.std.specs.Prelude.{◌↔◌}
use Rattle.std.specs.List.{Contains}
use Rattle.area_graph.specs.declared.vertex.Vertex.{Vertex}
use Rattle.area_graph.proofs.MemberLemmas.{Contains-from_In, In-cases, In-from_Contains, In-left, In-right}
use Rattle.lsa_codec.specs.Prefix.{Net}
use Rattle.lsa_names.specs.declared.lsa_name.LsaName.{LsaName}
use Rattle.route_candidates.specs.declared.candidate.Candidate.{Candidate}
use Rattle.route_candidates.specs.declared.target.Target.{Target}
use Rattle.route_candidates.specs.Decided.{is_used}
use Rattle.route_candidates.specs.Candidates.{candidates}
use Rattle.route_candidates.specs.RouterViews.{RouterViewValue}
use Rattle.route_candidates.specs.Targets.{route_targets, targets_of}
use Rattle.route_lines.specs.RouteLines.{RouteLineValue}
use Rattle.area_candidates.specs.Views.{AreaViewValue, area_views}
use Rattle.explanation.specs.Texts.{ExplanationValue}
use Rattle.explanation.specs.WaySteps.{AreRests, AreSteps, AreTargetsIn, IsRest, IsStep, IsVertexRest, rest_of}
use Rattle.explanation.specs.Whole.{ExplainsArea, ExplainsAreas, IsAnyRest, IsAnyStep, IsExplanation, IsRestIn, IsStepIn, lines_of_candidates}
use Rattle.explanation.specs.declared.rest.Rest.{Rest}
use Rattle.explanation.specs.declared.way_step.WayStep.{WayStep}
use Rattle.explanation.specs.steps.Resting.{IsCandidateRest, IsTargetRest, IsVertexRestBy}
use Rattle.area_candidates.proofs.InsertingLemmas.{Inserts, inserts_as, inserts_both}
use Rattle.explanation.proofs.SameTargets.{rest_on, same_targets, step_on}

module _ (view : AreaViewValue) (targets : List Target) (vertices : List Vertex) (are : AreTargetsIn targets view.area vertices) where
  step_in : (step : WayStep) → IsStep view vertices step ↔ IsStepIn targets view step
  step_in step = (λ s. (vertices, are, s), λ h. by h)
    where
      by : IsStepIn targets view step → IsStep view vertices step
      by (others, other, s) = step_on view others vertices (same_targets targets view.area others vertices other are) step s

  pub more_steps : (steps ways ways' : List WayStep) → AreSteps view vertices steps → ways' ≡ ways ++ steps → Inserts (IsStepIn targets view) ways ways'
  more_steps steps ways ways' all is step = (
    λ h. ⊎_elim (λ l. inl (Contains-from_In ways step l)) (λ r. inr ((step_in step).0 ((all step).0 (Contains-from_In steps step r))))
        (In-cases ways steps step (In-from_Contains (ways ++ steps) step (subst (λ (l : List WayStep). Contains l step) is h))),
    λ s. subst (λ (l : List WayStep). Contains l step) (sym is) (Contains-from_In (ways ++ steps) step
        (⊎_elim (λ l. In-left ways steps step (In-from_Contains ways step l))
        (λ n. In-right ways steps step (In-from_Contains steps step ((all step).1 ((step_in step).1 n)))) s)),
  )

  rest_in : (rest : Rest) → IsVertexRestBy view vertices rest ↔ IsRestIn targets view rest
  rest_in rest = (λ r. (vertices, are, r), λ h. by h)
    where
      by : IsRestIn targets view rest → IsVertexRestBy view vertices rest
      by (others, other, r) = rest_on view others vertices (same_targets targets view.area others vertices other are) rest r

  pub more_rests : (old new : List Rest) → Inserts (IsVertexRestBy view vertices) old new → Inserts (IsRestIn targets view) old new
  more_rests old new ins = inserts_as (IsVertexRestBy view vertices) (IsRestIn targets view) old new rest_in ins

  -- an area is explained by the steps and the LSAs of its targets
  pub explains : (steps ways ways' : List WayStep) (old new : List Rest) → AreSteps view vertices steps → ways' ≡ ways ++ steps
      → Inserts (IsVertexRestBy view vertices) old new → ExplainsArea view targets ways ways' old new
  explains steps ways ways' old new all is ins = record { steps = more_steps steps ways ways' all is; resting = more_rests old new ins }

-- ---- all areas

module _ (views : List AreaViewValue) (cs : List Candidate) (targets : List Target) where
  abbrev pub IsGathered : Rest → Type 0
  IsGathered rest =
      (IsCandidateRest cs rest ⊎ IsTargetRest targets rest) ⊎ ((view : AreaViewValue) × Contains views view × IsRestIn targets view rest)

  abbrev IsNamed : Rest → Type 0
  IsNamed rest = (name : LsaName) × (rest ≡ rest_of name) × IsRest views cs targets name

  named : (rest : Rest) → IsGathered rest → IsNamed rest
  named rest (inl (inl (c, there, (used, is)))) = (c.lsa, is, record { by = inl (c, there, used, refl) })
  named rest (inl (inr (target, there, (name, by, is)))) = (name, is, record { by = inr (inl (target, there, by)) })
  named rest (inr (view, there, (vertices, are, (name, on, is)))) = (name, is, record { by = inr (inr (view, vertices, there, are, on)) })

  gathered : (rest : Rest) → IsNamed rest → IsGathered rest
  gathered rest (name, is, of) = by of.by
    where
      by : ((c : Candidate) × Contains cs c × (is_used c ≡ true) × (name ≡ c.lsa))
          ⊎ (((target : Target) × Contains targets target × (target.by ≡ Some name))
          ⊎ ((view : AreaViewValue) × (vertices : List Vertex) × Contains views view × AreTargetsIn targets view.area vertices
          × IsVertexRest view vertices name))
          → IsGathered rest
      by (inl (c, there, used, called)) = inl (inl (c, there, (used, is ∙ ap rest_of called)))
      by (inr (inl (target, there, named_by))) = inl (inr (target, there, (name, named_by, is)))
      by (inr (inr (view, vertices, there, are, on))) = inr (view, there, (vertices, are, (name, on, is)))

  pub all_rests : (rests : List Rest) → Inserts IsGathered [] rests → AreRests views cs targets rests
  all_rests rests ins rest = (
    λ h. named rest (⊎_elim (λ e. absurd (In-from_Contains [] rest e)) (λ g. g) ((ins rest).0 h)),
    λ n. (ins rest).1 (inr (gathered rest n)),
  )

-- ---- the whole

pub explains_areas : (views : List AreaViewValue) (targets : List Target) (ways ways' : List WayStep) (rests rests' : List Rest)
    → Inserts (IsAnyStep views targets) ways ways' → Inserts (IsAnyRest views targets) rests rests' → ExplainsAreas views targets ways ways' rests rests'
explains_areas views targets ways ways' rests rests' steps resting = record { steps = steps; resting = resting }

module _ (view : RouterViewValue) (net : Net) (route : Option RouteLineValue) (views : List AreaViewValue) (cs : List Candidate) (targets : List Target)
    (are_cs : cs ≡ candidates view net) (are_targets : targets ≡ targets_of view cs) (are_views : views ≡ area_views view.db view.router) where
  abbrev all_targets : targets ≡ route_targets view net
  all_targets = are_targets ∙ ap (targets_of view) are_cs

  any_step : (ways : List WayStep) → Inserts (IsAnyStep views targets) [] ways → (step : WayStep) → Contains ways step ↔ IsAnyStep views targets step
  any_step ways ins step = (
    λ h. ⊎_elim (λ e. absurd (In-from_Contains [] step e)) (λ s. s) ((ins step).0 h),
    λ s. (ins step).1 (inr s),
  )

  gathered_rests : (one two rests : List Rest) → Inserts (IsCandidateRest cs) [] one → Inserts (IsTargetRest targets) one two
      → Inserts (IsAnyRest views targets) two rests → AreRests views cs targets rests
  gathered_rests one two rests of_cs of_targets of_areas =
      all_rests views cs targets rests
      (inserts_both (λ rest. IsCandidateRest cs rest ⊎ IsTargetRest targets rest) (IsAnyRest views targets) [] two rests
      (inserts_both (IsCandidateRest cs) (IsTargetRest targets) [] one two of_cs of_targets) of_areas)

  pub explained : (e : ExplanationValue) (one two : List Rest) → e.route ≡ route → e.candidates ≡ lines_of_candidates cs
      → Inserts (IsAnyStep views targets) [] e.ways → Inserts (IsCandidateRest cs) [] one → Inserts (IsTargetRest targets) one two
      → Inserts (IsAnyRest views targets) two e.rests → IsExplanation view net route e
  explained e one two of_route lines of_ways of_cs of_targets of_areas = record {
    its_route = of_route;
    all = lines ∙ ap lines_of_candidates are_cs;
    ways = λ step.
        subst (λ (vs : List AreaViewValue). Contains e.ways step ↔ IsAnyStep vs (route_targets view net) step) are_views
        (subst (λ (ts : List Target). Contains e.ways step ↔ IsAnyStep views ts step) all_targets (any_step e.ways of_ways step));
    rests =
        subst (λ (vs : List AreaViewValue). AreRests vs (candidates view net) (route_targets view net) e.rests) are_views
        (subst (λ (ts : List Target). AreRests views (candidates view net) ts e.rests) all_targets
        (subst (λ (l : List Candidate). AreRests views l targets e.rests) are_cs (gathered_rests one two e.rests of_cs of_targets of_areas)));
  }
