use Rattle.std.proofs.Common.{ℕ, ◌^◌, [], ◌∷◌, List, map, sym, ap, subst, ◌∙◌}
use Rattle.std.specs.List.{filter_map}
use Rattle.std.proofs.lemmas.Iterator.Consumers.{YieldsList-end, YieldsList-from_first}
use Rattle.std.proofs.lemmas.List.{map-append}
use Rattle.lsa_codec.specs.Prefix.{Net}
use Rattle.best_ways.specs.Best.{Gathers}
use Rattle.best_ways.specs.Candidate.{Candidate}
use Rattle.area_routes.specs.Inter.{network_candidate}
use Rattle.area_routes.proofs.Costs.{networks_below}
use Rattle.area_routes.proofs.AddsLemmas.{filter_map_adds}
use Rattle.area_routes.proofs.Borderless.{no_routes}
use Rattle.area_routes.proofs.inter_area.inter_routes.Goals as goal

pub loop-lsa-preserved : goal.loop-lsa-preserved
loop-lsa-preserved g c =
    let f = network_candidate c.args.router c.args.area.now c.args.intra.now in
    let so_far = map (λ lsa. lsa.now) c.loop-lsa.yielded in
    let P : List (Candidate Net) → Type 0 = λ cs. Gathers cs c.add_network_candidate.new.ways in
    subst P (sym (ap (filter_map f) (map-append (λ lsa. lsa.now) c.loop-lsa.yielded (c.in-Some.lsa ∷ [])) ∙ (filter_map_adds f).push so_far c.in-Some.lsa.now))
    (c.in_ok-add_network_candidate.ensures (filter_map f so_far) c.loop-lsa.invariant)

pub from_routes-requires : goal.from_routes-requires
from_routes-requires g c =
    let lsas = map (λ lsa. lsa.now) c.loop-lsa.yielded in
    let cs = filter_map (network_candidate c.args.router c.args.area.now c.args.intra.now) lsas in
    let below = networks_below c.args.router c.args.area.now c.requires c.args.intra.now lsas in
    c.in_ok-into_routes.ensures.small (2 ^ 34) cs c.loop-lsa.invariant below

pub returns : goal.returns
returns g c =
    let seen = YieldsList-end (YieldsList-from_first (λ lsa. lsa.now) (λ lsas. lsas) c.args.lsas c.into_iter-lsa-iterator.ensures.into_iter_gives)
    c.loop-lsa.yielded _ c.loop-lsa.yielded_by _ _ c.in-None.is c.next.ensures.steps in
    let f = network_candidate c.args.router c.args.area.now c.args.intra.now in
    let P : List (List ℕ) → Type 0 = λ lsas. Gathers (filter_map f lsas) c.loop-lsa.ways in
    c.from_routes.ensures ∙ c.in_ok-into_routes.ensures.routes (filter_map f c.args.lsas) (subst P seen.0 c.loop-lsa.invariant)

pub returns-then-is_borderless : goal.returns-then-is_borderless
returns-then-is_borderless g c =
    c.new.ensures ∙ no_routes c.args.router c.args.area.now (c.is_borderless.ensures c.if-is_borderless.true) c.args.intra.now c.args.lsas
