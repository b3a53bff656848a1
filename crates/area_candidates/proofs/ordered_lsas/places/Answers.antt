use Rattle.std.proofs.Common.{ℕ, ◌++◌, List, [], ◌∷◌, Bor, map, sym, ap, ◌∙◌}
use Rattle.std.specs.List.{cons_option, filter_map}
use Rattle.std.proofs.lemmas.Iterator.Consumers.{YieldsList-end, YieldsList-from_first}
use Rattle.std.proofs.lemmas.List.{map-append}
use Rattle.area_routes.proofs.AddsLemmas.{filter_map_adds}
use Rattle.area_candidates.specs.declared.ordered_lsas.Place.{Place}
use Rattle.area_candidates.specs.InOrder.{place_if}
use Rattle.area_candidates.proofs.ordered_lsas.places.Goals as goal

pub loop-lsa-preserved : goal.loop-lsa-preserved
loop-lsa-preserved g c =
    let place = place_if c.args.kind c.args.net in
    let now = λ (lsa : Bor (List ℕ)). lsa.now in
    c.in_ok-push_place.ensures
    ∙ ap (λ (places : List Place). places ++ cons_option (place c.in-Some.lsa.now) []) c.loop-lsa.invariant
    ∙ sym ((filter_map_adds place).push (map now c.loop-lsa.yielded) c.in-Some.lsa.now)
    ∙ ap (filter_map place) (sym (map-append now c.loop-lsa.yielded (c.in-Some.lsa ∷ [])))

pub returns : goal.returns
returns g c =
    let seen = YieldsList-end (YieldsList-from_first (λ (lsa : Bor (List ℕ)). lsa.now) (λ s. s) c.args.lsas
    c.into_iter-lsa-iterator.ensures.into_iter_gives) c.loop-lsa.yielded _ c.loop-lsa.yielded_by _ _ c.in-None.is c.next.ensures.steps in
    c.loop-lsa.invariant ∙ ap (filter_map (place_if c.args.kind c.args.net)) seen.0
