-- The steps over the edges of an area are the steps on paths of least cost.
use Rattle.std.proofs.Common.{◌≡◌, ℕ, ◌+◌, Bool, true, false, cond, eqb, List, Option, None, Some, refl, sym, ap, ◌∙◌, subst, ◌⊎◌, inl, inr, [], ⊎_elim}
use Rattle.std.specs.Prelude.{◌↔◌}
use Rattle.std.specs.List.{Contains}
use Rattle.std.proofs.lemmas.Bool.{eq-eqb, eqb-true}
use Rattle.lsa_codec.specs.declared.address.Addr.{Addr}
use Rattle.lsa_codec.specs.declared.address.RouterId.{RouterId}
use Rattle.area_graph.specs.declared.vertex.Vertex.{Vertex}
use Rattle.area_graph.specs.declared.vertex.Vertex.TheVariants.{Router, Network}
use Rattle.area_graph.specs.Paths.{DirectedEdge}
use Rattle.area_graph.specs.Vertex.{is_network}
use Rattle.area_graph.proofs.MemberLemmas.{In-from_Contains, Some-same}
use Rattle.least_paths.specs.LeastPaths.{edge_of}
use Rattle.least_paths.specs.declared.least_edge.LeastEdge.{LeastEdge}
use Rattle.area_candidates.specs.Views.{AreaViewValue}
use Rattle.explanation.specs.WaySteps.{AreSteps, IsAt, IsOnWay, IsOverLink, IsOverNetwork, IsStep, IsToNetwork}
use Rattle.explanation.specs.declared.steps.Start.{Start}
use Rattle.explanation.specs.declared.way_step.WayStep.{WayStep}
use Rattle.area_candidates.proofs.InsertingLemmas.{Inserts}
use Rattle.explanation.specs.steps.Edges.{AreEdgesIn, IsStepFrom, IsStepOver, IsStepTo, onward, onward_by, step_of}

-- where an edge leads on
onward_is : (v w : Vertex) (n : Addr) (r : RouterId) → onward_by v w n ≡ Some r → (v ≡ Network n) × (w ≡ Router r)
onward_is (Network m) (Router x) n r h = by (eqb m.0 n.0) refl h
  where
    by : (b : Bool) → eqb m.0 n.0 ≡ b → cond b (Some x) None ≡ Some r → (Network m ≡ Network n) × (Router x ≡ Router r)
    by false is k = absurd (cc)
    by true is k = ((let same = eqb-true m.0 n.0 is in λ i. Network (record { 0 = same i })), ap (λ (y : RouterId). Router y) (Some-same k))
onward_is (Network m) (Network x) n r h = absurd (cc)
onward_is (Router x) w n r h = absurd (cc)

onward_to : (n : Addr) (r : RouterId) → onward_by (Network n) (Router r) n ≡ Some r
onward_to n r = ap (λ (b : Bool). cond b (Some r) None) (eq-eqb n.0 n.0 refl)

-- a step over an edge out of a router
abbrev pub IsFrom : AreaViewValue → List Vertex → List LeastEdge → LeastEdge → WayStep → Type 0
IsFrom view targets edges e step =
    (router : RouterId) × (e.from ≡ Router router) × IsStepFrom (record { area = view.area; router = router; edge = e }) edges targets step

module _ (view : AreaViewValue) (targets : List Vertex) (edges : List LeastEdge) (are : AreEdgesIn view targets edges)
    (near : (e : DirectedEdge Vertex) → IsOnWay view targets e → (d : ℕ) × IsAt view targets e.from d) where
  abbrev start : RouterId → LeastEdge → Start
  start router e = record { area = view.area; router = router; edge = e }

  -- an edge between two vertices
  renamed : (e : LeastEdge) (v w : Vertex) → e.from ≡ v → e.to ≡ w → IsOnWay view targets (edge_of e)
      → IsOnWay view targets (record { from = v; to = w; cost = e.cost; link_data = e.link_data })
  renamed e v w from to on =
      subst (λ (f : DirectedEdge Vertex). IsOnWay view targets f)
      (λ i. record { from = from i; to = to i; cost = e.cost; link_data = e.link_data }) on

  over_network : (e : LeastEdge) (router : RouterId) (n : Addr) → Contains edges e → e.from ≡ Router router → e.to ≡ Network n → (step : WayStep)
      → IsStepOver (start router e) n edges targets step → IsStep view targets step
  over_network e router n there from to step (inl (target, h)) =
      let is = (are.members e).0 there in
      let made : IsStep view targets (step_of (start router e) true n None) = record {
        area = refl;
        start = subst (λ (v : Vertex). IsAt view targets v e.distance) from is.1;
        sum = refl;
        by = inr (inl (record { network = refl; none_between = refl; target = target; edge = renamed e (Router router) (Network n) from to is.0 }));
      } in
      subst (λ (s : WayStep). IsStep view targets s) (sym h) made
  over_network e router n there from to step (inr (f, on, (r, leads, h))) =
      let is = (are.members e).0 there in
      let ends = onward_is f.from f.to n r leads in
      let free : f.cost ≡ 0 = are.free f on (ap is_network ends.0) in
      let next = renamed f (Network n) (Router r) ends.0 ends.1 ((are.members f).0 on).0 in
      let made : IsStep view targets (step_of (start router e) false (record { 0 = r.0 }) (Some n)) = record {
        area = refl;
        start = subst (λ (v : Vertex). IsAt view targets v e.distance) from is.1;
        sum = refl;
        by = inr (inr (record {
          router = refl;
          between = n;
          is_between = refl;
          edge = renamed e (Router router) (Network n) from to is.0;
          back = f.link_data;
          on = subst (λ (c : ℕ). IsOnWay view targets (record { from = Network n; to = Router r; cost = c; link_data = f.link_data })) free next;
        }));
      } in
      subst (λ (s : WayStep). IsStep view targets s) (sym h) made

  step_to : (e : LeastEdge) (router : RouterId) (w : Vertex) → Contains edges e → e.from ≡ Router router → e.to ≡ w → (step : WayStep)
      → IsStepTo (start router e) edges targets w step → IsStep view targets step
  step_to e router (Network n) there from to step h = over_network e router n there from to step h
  step_to e router (Router r) there from to step h =
      let is = (are.members e).0 there in
      let made : IsStep view targets (step_of (start router e) false (record { 0 = r.0 }) None) = record {
        area = refl;
        start = subst (λ (v : Vertex). IsAt view targets v e.distance) from is.1;
        sum = refl;
        by = inl (record { router = refl; no_network = refl; edge = renamed e (Router router) (Router r) from to is.0 });
      } in
      subst (λ (s : WayStep). IsStep view targets s) (sym h) made

  pub step-from : (e : LeastEdge) → Contains edges e → (step : WayStep) → IsFrom view targets edges e step → IsStep view targets step
  step-from e there step (router, from, h) = step_to e router e.to there from refl step h

  -- ---- and each such step is found

  abbrev Found : WayStep → Type 0
  Found step = (e : LeastEdge) × Contains edges e × IsFrom view targets edges e step

  abbrev first_edge : WayStep → Vertex → LeastEdge
  first_edge step to = record { from = Router step.router; to = to; cost = step.cost; link_data = step.out; distance = step.distance }

  abbrev first_start : WayStep → Vertex → Start
  first_start step to = start step.router (first_edge step to)

  -- a step is that over its first edge
  same_step : (step : WayStep) → IsStep view targets step → (to : Vertex) (b : Bool) → step.is_network ≡ b → (o : Option Addr) → step.over ≡ o
      → step ≡ step_of (first_start step to) b step.end o
  same_step step s to b kind o over =
      λ i. record {
        area = s.area i;
        distance = step.distance;
        router = step.router;
        is_network = kind i;
        end = step.end;
        out = step.out;
        over = over i;
        cost = step.cost;
        sum = s.sum i;
      }

  from_link : (step : WayStep) → IsStep view targets step → IsOverLink view targets step → Found step
  from_link step s o =
      let to : Vertex = Router (record { 0 = step.end.0 }) in (
        first_edge step to,
        (are.members (first_edge step to)).1 (o.edge, s.start),
        (step.router, refl, same_step step s to false o.router None o.no_network),
      )

  from_network : (step : WayStep) → IsStep view targets step → IsToNetwork view targets step → Found step
  from_network step s t =
      let to : Vertex = Network step.end in (
        first_edge step to,
        (are.members (first_edge step to)).1 (t.edge, s.start),
        (step.router, refl, inl (t.target, same_step step s to true t.network None t.none_between)),
      )

  from_between : (step : WayStep) → IsStep view targets step → IsOverNetwork view targets step → Found step
  from_between step s b =
      let to : Vertex = Network b.between in
      let end : RouterId = record { 0 = step.end.0 } in
      let second : DirectedEdge Vertex = record { from = Network b.between; to = Router end; cost = 0; link_data = b.back } in
      let at = near second b.on in
      let next : LeastEdge = record { from = Network b.between; to = Router end; cost = 0; link_data = b.back; distance = at.0 } in (
        first_edge step to,
        (are.members (first_edge step to)).1 (b.edge, s.start),
        (
          step.router,
          refl,
          inr (
            next,
            (are.members next).1 (b.on, at.1),
            (end, onward_to b.between end, same_step step s to false b.router (Some b.between) b.is_between),
          ),
        ),
      )

  pub from-step : (step : WayStep) → IsStep view targets step → Found step
  from-step step s = by s.by
    where
      by : IsOverLink view targets step ⊎ (IsToNetwork view targets step ⊎ IsOverNetwork view targets step) → Found step
      by (inl o) = from_link step s o
      by (inr (inl t)) = from_network step s t
      by (inr (inr b)) = from_between step s b

  -- the steps over all edges
  pub all_steps : (steps : List WayStep) → Inserts Found [] steps → AreSteps view targets steps
  all_steps steps ins step = (
    λ h. ⊎_elim (λ e. absurd (In-from_Contains [] step e)) (λ f. step-from f.0 f.1 step f.2) ((ins step).0 h),
    λ s. (ins step).1 (inr (from-step step s)),
  )
