use Rattle.std.proofs.Common.{◌≡◌, ◌<◌, ◌^◌, ℕ, List, take, subst, sym, ◌∙◌}
use Rattle.std.specs.List.{All, flat_map}
use Rattle.std.proofs.lemmas.List.{take_all}
use Rattle.std.proofs.lemmas.List.Elements.{All-map}
use Rattle.lsa_codec.specs.Prefix.{Net}
use Rattle.best_ways.specs.Best.{Gathers}
use Rattle.best_ways.specs.Candidate.{Candidate}
use Rattle.area_routes.specs.Intra.{intra_candidate, intra_candidates, intra_of}
use Rattle.area_routes.specs.Values.{AreaResultValue, ResultBelow}
use Rattle.best_ways.specs.Values.{RoutesBelow}
use Rattle.best_ways.proofs.WayLemmas.{All-flat_map, All-taken, wider_routes}
use Rattle.area_routes.proofs.AddsLemmas.{adds_step, flat_map_adds}
use Rattle.area_routes.proofs.intra_area.intra.Goals as goal

pub loop-area-preserved : goal.loop-area-preserved
loop-area-preserved g c = (
  adds_step (flat_map_adds intra_candidates) (λ cs. Gathers cs c.loop-area.ways) (λ cs. Gathers cs c.add_intra_candidates.new.ways)
      c.args.results.now c.loop-area.area-index c.area-item.result c.loop-area-test.true
      c.area-item.is c.loop-area.invariant.0 c.in_ok-add_intra_candidates.ensures.added,
  All-taken (ResultBelow (2 ^ 33)) c.args.results.now c.loop-area.area-index c.area-item.result c.loop-area-test.true
      c.area-item.is c.add_intra_candidates.ensures.below c.loop-area.invariant.1,
)

-- all areas are taken at the end
whole : (results : List AreaResultValue) (i : ℕ) (P : List AreaResultValue → Type 0) → take i results ≡ results → P (take i results) → P results
whole results i P all p = subst P all p

-- no candidate costs more than all costs in the results of the areas
candidates_below : (results : List AreaResultValue) → All (ResultBelow (2 ^ 33)) results → All (λ c. c.rank.cost < 2 ^ 33) (flat_map intra_candidates results)
candidates_below results a = All-flat_map (λ (c : Candidate Net). c.rank.cost < 2 ^ 33) (ResultBelow (2 ^ 33)) intra_candidates
    (λ r h. All-map (λ (c : Candidate Net). c.rank.cost < 2 ^ 33) (intra_candidate r.area) r.offers h.offers) results a

pub from_routes-requires : goal.from_routes-requires
from_routes-requires g c =
    let all = take_all c.loop-area.area-index c.args.results.now c.loop-area-test.false in
    let at = whole c.args.results.now c.loop-area.area-index
    (λ rs. Gathers (flat_map intra_candidates rs) c.loop-area.ways) all c.loop-area.invariant.0 in
    let areas = whole c.args.results.now c.loop-area.area-index (λ rs. All (ResultBelow (2 ^ 33)) rs) all c.loop-area.invariant.1 in
    let below = candidates_below c.args.results.now areas in
    wider_routes c.in_ok-into_routes.field-0 (c.in_ok-into_routes.ensures.small (2 ^ 33) (flat_map intra_candidates c.args.results.now) at below)

pub returns-clause-routes : goal.returns-clause-routes
unfolding intra_of
returns-clause-routes g c =
    let all = take_all c.loop-area.area-index c.args.results.now c.loop-area-test.false in
    let at = whole c.args.results.now c.loop-area.area-index
    (λ rs. Gathers (flat_map intra_candidates rs) c.loop-area.ways) all c.loop-area.invariant.0 in
    c.from_routes.ensures ∙ c.in_ok-into_routes.ensures.routes (flat_map intra_candidates c.args.results.now) at

pub returns-clause-small : goal.returns-clause-small
returns-clause-small g c =
    let all = take_all c.loop-area.area-index c.args.results.now c.loop-area-test.false in
    let at = whole c.args.results.now c.loop-area.area-index
    (λ rs. Gathers (flat_map intra_candidates rs) c.loop-area.ways) all c.loop-area.invariant.0 in
    let areas = whole c.args.results.now c.loop-area.area-index (λ rs. All (ResultBelow (2 ^ 33)) rs) all c.loop-area.invariant.1 in
    let below = candidates_below c.args.results.now areas in
    subst (RoutesBelow (2 ^ 33)) (sym c.from_routes.ensures)
    (c.in_ok-into_routes.ensures.small (2 ^ 33) (flat_map intra_candidates c.args.results.now) at below)
