use Rattle.std.proofs.Common.{◌≡◌, List, [], ap, refl, subst, sym, ◌∙◌}
use Rattle.std.proofs.lemmas.Iterator.{items_from_collect}
use Rattle.std.proofs.lemmas.Iterator.Consumers.{YieldsList-from_rest}
use Rattle.std.proofs.lemmas.Result.{IfOk-at_ok}
use Rattle.route_candidates.specs.Targets.{targets_of}
use Rattle.route_candidates.specs.declared.candidate.Candidate.{Candidate}
use Rattle.route_candidates.specs.declared.target.Target.{Target}
use Rattle.explanation.specs.Texts.{ExplanationValue}
use Rattle.explanation.specs.Whole.{ExplainsAreas, IsAnyRest, IsAnyStep, lines_of_candidates}
use Rattle.explanation.specs.declared.rest.Rest.{Rest}
use Rattle.explanation.specs.declared.way_step.WayStep.{WayStep}
use Rattle.explanation.specs.steps.Resting.{IsCandidateRest, IsTargetRest}
use Rattle.area_candidates.proofs.InsertingLemmas.{Inserts}
use Rattle.explanation.proofs.Areas.{explained}
use Rattle.explanation.proofs.explanation.Explanation.of.Goals as goal

pub returns : goal.returns
returns g c =
    let view = c.args.view.now in
    let views = c.areas.result.now in
    let cs = c.in_ok-candidates.candidates.items in
    let targets = c.in_ok-targets.targets.items in
    let one = c.insert_candidates.new.rests.keys in
    let two = c.insert_targets.new.rests.keys in
    let ways = c.explain_areas.new.ways.items in
    let keys = c.explain_areas.new.rests.keys in
    let rests = c.in_ok-collect.field-0.items in
    let all : rests ≡ keys = IfOk-at_ok (λ v. v.items ≡ keys) c.in_ok-collect.was
    (items_from_collect c.collect.result c.collect.ensures.ran (YieldsList-from_rest keys c.into_iter.ensures.into_iter_gives.0)) in
    let areas = subst (λ (ts : List Target). ExplainsAreas views ts c.new-ways.result.items ways two keys) c.deref-4.ensures.value
    c.in_ok-explain_areas.ensures in
    let value : ExplanationValue = record {
      route = c.args.route;
      candidates = c.in_ok-candidate_lines.field-0.items;
      ways = ways;
      rests = rests;
    } in
    explained view c.args.net c.args.route views cs targets c.in_ok-candidates.ensures
    (c.in_ok-targets.ensures ∙ ap (targets_of view) c.deref.ensures.value) c.areas.ensures value one two refl
    (c.in_ok-candidate_lines.ensures ∙ ap lines_of_candidates c.deref-5.ensures.value)
    (subst (λ (l : List WayStep). Inserts (IsAnyStep views targets) l ways) c.new-ways.ensures.items areas.steps)
    (subst (λ (l : List Rest). Inserts (IsCandidateRest cs) l one) c.new-rests.ensures.empty
    (subst (λ (l : List Candidate). Inserts (IsCandidateRest l) c.new-rests.result.keys one) c.deref-2.ensures.value c.in_ok-insert_candidates.ensures))
    (subst (λ (l : List Target). Inserts (IsTargetRest l) one two) c.deref-3.ensures.value c.in_ok-insert_targets.ensures)
    (subst (λ (l : List Rest). Inserts (IsAnyRest views targets) two l) (sym all) areas.resting)
