-- The targets of an area, by a filter.
use Rattle.std.proofs.Common.{◌≡◌, ℕ, Bool, true, eqb, List, map, ap, refl, subst}
use Rattle.std.specs.Prelude.{◌↔◌}
use Rattle.std.specs.List.{Contains, filter}
use Rattle.std.proofs.lemmas.Bool.{eq-eqb, eqb-true}
use Rattle.lsa_codec.specs.declared.address.AreaId.{AreaId}
use Rattle.area_graph.specs.declared.vertex.Vertex.{Vertex}
use Rattle.area_graph.proofs.MemberLemmas.{Contains-from_In, In, In-filter, In-from_Contains, In-map, filter-In, map-In}
use Rattle.route_candidates.specs.declared.target.Target.{Target}
use Rattle.explanation.specs.WaySteps.{AreTargetsIn, IsTargetIn}

module _ (targets : List Target) (area : AreaId) where
  abbrev pub is_here : Target → Bool
  is_here target = eqb target.area.0 area.0

  abbrev pub vertices_here : List Vertex
  vertices_here = map (λ (target : Target). target.vertex) (filter is_here targets)

  pub are_targets : AreTargetsIn targets area vertices_here
  are_targets v = (
    λ h. (let m = map-In (λ (target : Target). target.vertex) (filter is_here targets) v (In-from_Contains vertices_here v h) in
        let f = filter-In is_here targets m.0 m.1 in
        let same = eqb-true m.0.area.0 area.0 f.1 in
        (m.0, Contains-from_In targets m.0 f.0, (λ i. record { 0 = same i }), m.2)),
    λ t. back t,
  )
    where
      back : IsTargetIn targets area v → Contains vertices_here v
      back (target, there, at, is) =
          let i = In-filter is_here targets target (In-from_Contains targets target there) (eq-eqb target.area.0 area.0 (ap (λ (a : AreaId). a.0) at)) in
          Contains-from_In vertices_here v
          (subst (λ (w : Vertex). In vertices_here w) is (In-map (λ (t : Target). t.vertex) (filter is_here targets) target i))
