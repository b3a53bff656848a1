use Rattle.std.proofs.Common.{◌≡◌, ℕ, ◌^◌, [], ◌∷◌, List, map, sym, ap, subst, ◌∙◌}
use Rattle.std.specs.List.{filter_map}
use Rattle.std.proofs.lemmas.Iterator.Consumers.{YieldsList-end, YieldsList-from_first}
use Rattle.std.proofs.lemmas.List.{map-append}
use Rattle.std.proofs.lemmas.Result.{IfOk-weaker}
use Rattle.lsa_codec.specs.declared.address.AreaId.{AreaId}
use Rattle.lsa_codec.specs.declared.address.RouterId.{RouterId}
use Rattle.best_ways.specs.Best.{Gathers}
use Rattle.best_ways.specs.Candidate.{Candidate}
use Rattle.area_routes.specs.Inter.{asbr_candidate, asbr_entry}
use Rattle.area_routes.specs.Values.{EntriesBelow}
use Rattle.area_routes.proofs.Costs.{asbrs_below, entries_below}
use Rattle.area_routes.proofs.AddsLemmas.{filter_map_adds}
use Rattle.area_routes.proofs.Borderless.{no_entries}
use Rattle.area_routes.proofs.inter_area.inter_entries.Goals as goal

pub loop-lsa-preserved : goal.loop-lsa-preserved
loop-lsa-preserved g c =
    let f = asbr_candidate c.args.router c.args.area.now in
    let so_far = map (λ lsa. lsa.now) c.loop-lsa.yielded in
    let P : List (Candidate RouterId) → Type 0 = λ cs. Gathers cs c.add_asbr_candidate.new.ways in
    subst P (sym (ap (filter_map f) (map-append (λ lsa. lsa.now) c.loop-lsa.yielded (c.in-Some.lsa ∷ [])) ∙ (filter_map_adds f).push so_far c.in-Some.lsa.now))
    (c.in_ok-add_asbr_candidate.ensures (filter_map f so_far) c.loop-lsa.invariant)

pub returns-clause-entries : goal.returns-clause-entries
returns-clause-entries g c =
    let seen = YieldsList-end (YieldsList-from_first (λ lsa. lsa.now) (λ lsas. lsas) c.args.lsas c.into_iter-lsa-iterator.ensures.into_iter_gives)
    c.loop-lsa.yielded _ c.loop-lsa.yielded_by _ _ c.in-None.is c.next.ensures.steps in
    let all : map (λ lsa. lsa.now) c.loop-lsa.yielded ≡ c.args.lsas = seen.0 in
    let f = asbr_candidate c.args.router c.args.area.now in
    let P : List (List ℕ) → Type 0 = λ lsas. Gathers (filter_map f lsas) c.loop-lsa.ways in
    let ways = c.in_ok-into_list.ensures.ways (filter_map f c.args.lsas) (subst P all c.loop-lsa.invariant) in
    IfOk-weaker c.entries.result _ _
    (λ x h. h ∙ ap (λ (a : AreaId). map (asbr_entry a) c.in_ok-into_list.field-0.items) c.area.ensures ∙ ap (map (asbr_entry c.args.area.now.area)) ways)
    c.entries.ensures

pub returns-clause-small : goal.returns-clause-small
returns-clause-small g c =
    let lsas = map (λ lsa. lsa.now) c.loop-lsa.yielded in
    let cs = filter_map (asbr_candidate c.args.router c.args.area.now) lsas in
    let ways = c.in_ok-into_list.ensures.ways cs c.loop-lsa.invariant in
    IfOk-weaker c.entries.result _ _
    (λ x h. subst (EntriesBelow (2 ^ 34)) (sym (h ∙ ap (map (asbr_entry c.area.result)) ways))
    (entries_below (2 ^ 34) c.area.result cs (asbrs_below c.args.router c.args.area.now c.requires lsas)))
    c.entries.ensures

pub returns-then-is_borderless-clause-entries : goal.returns-then-is_borderless-clause-entries
returns-then-is_borderless-clause-entries g c =
    c.new.ensures.items ∙ no_entries c.args.router c.args.area.now (c.is_borderless.ensures c.if-is_borderless.true) c.args.lsas
