use Rattle.std.proofs.Common.{◌≡◌, ◌++◌, List, [], ◌∷◌, Bor, map, sym, ap, ◌∙◌, ℕ}
use Rattle.std.specs.List.{cons_option, filter_map}
use Rattle.std.proofs.lemmas.Iterator.Consumers.{YieldsList-end, YieldsList-from_first}
use Rattle.std.proofs.lemmas.List.{map-append}
use Rattle.area_routes.proofs.AddsLemmas.{filter_map_adds}
use Rattle.external_routes.specs.declared.external_lsas.ExternalLsa.{ExternalLsa}
use Rattle.external_routes.specs.ExternalLsas.{external_lsa}
use Rattle.external_routes.proofs.external_lsas.in_use.Goals as goal

pub loop-lsa-preserved : goal.loop-lsa-preserved
loop-lsa-preserved g c =
    let now = λ (lsa : Bor (List ℕ)). lsa.now in
    let before = map now c.loop-lsa.yielded in
    c.in_ok-push_in_use.ensures
    ∙ ap (λ (l : List ExternalLsa). l ++ cons_option (external_lsa c.in-Some.lsa.now) []) c.loop-lsa.invariant
    ∙ sym ((filter_map_adds external_lsa).push before c.in-Some.lsa.now)
    ∙ ap (λ (lsas : List (List ℕ)). filter_map external_lsa lsas) (sym (map-append now c.loop-lsa.yielded (c.in-Some.lsa ∷ [])))

pub returns : goal.returns
returns g c =
    let all = YieldsList-end (YieldsList-from_first (λ (lsa : Bor (List ℕ)). lsa.now) (λ s. s) c.args.lsas
    c.into_iter-lsa-iterator.ensures.into_iter_gives) c.loop-lsa.yielded _ c.loop-lsa.yielded_by _ _ c.in-None.is c.next.ensures.steps in
    c.loop-lsa.invariant ∙ ap (λ (lsas : List (List ℕ)). filter_map external_lsa lsas) all.0
