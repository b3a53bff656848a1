use Rattle.std.proofs.Common.{◌++◌, ◌∷◌, [], ◌∙◌, List, ap, map, subst}
use Rattle.lsa_codec.specs.declared.address.AreaId.{AreaId}
use Rattle.lsa_codec.specs.Prefix.{Net}
use Rattle.best_ways.specs.Best.{Gathers}
use Rattle.best_ways.specs.Candidate.{Candidate}
use Rattle.area_routes.specs.Intra.{intra_candidate}
use Rattle.best_ways.specs.Values.{RouteValue}
use Rattle.area_routes.specs.steps.OneArea.{offered}
use Rattle.area_routes.proofs.AddsLemmas.{adds_all, adds_more, map_adds}
use Rattle.area_routes.proofs.OneArea.{candidates_by}
use Rattle.area_routes.proofs.intra_area.add_intra_candidates.Goals as goal

pub loop-route-preserved : goal.loop-route-preserved
loop-route-preserved g c =
    let r = c.route-item.result in
    adds_more (map_adds (λ (r : RouteValue). intra_candidate c.args.area.now.area (offered r))) (λ cs. Gathers cs c.args.ways.now)
    (λ cs. Gathers cs c.loop-route.ways) (λ cs. Gathers cs c.add_intra_candidate.new.ways)
    c.routes-routes.result.now c.loop-route.route-index r c.loop-route-test.true c.route-item.is c.loop-route.invariant
    (λ cs before.
    let P : AreaId → Type 0 = λ area. Gathers (cs ++ intra_candidate area (offered r) ∷ []) c.add_intra_candidate.new.ways in
    subst P c.area.ensures (c.in_ok-add_intra_candidate.ensures cs before))

pub returns-clause-added : goal.returns-clause-added
returns-clause-added g c = λ cs before.
    let by : RouteValue → Candidate Net = λ r. intra_candidate c.args.area.now.area (offered r) in
    let P : List (Candidate Net) → Type 0 = λ more. Gathers (cs ++ more) c.loop-route.ways in
    subst P (ap (map by) c.routes-routes.ensures.routes ∙ candidates_by c.args.area.now.area c.args.area.now.offers)
    (adds_all (map_adds by) (λ cs. Gathers cs c.args.ways.now) (λ cs. Gathers cs c.loop-route.ways)
    c.routes-routes.result.now c.loop-route.route-index c.loop-route-test.false c.loop-route.invariant cs before)
