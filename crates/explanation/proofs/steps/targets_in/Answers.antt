use Rattle.std.proofs.Common.{List, ap, ◌∙◌, rules, subst, sym, tests}
use Rattle.std.proofs.lemmas.Iterator.{YieldsList-from_map, YieldsList-from_slice, items_from_collect}
use Rattle.std.proofs.lemmas.Iterator.Consumers.{YieldsList-from_filter}
use Rattle.std.proofs.lemmas.Result.{IfOk-weaker}
use Rattle.area_graph.specs.declared.vertex.Vertex.{Vertex}
use Rattle.route_candidates.specs.declared.target.Target.{Target}
use Rattle.explanation.specs.WaySteps.{AreTargetsIn}
use Rattle.explanation.proofs.TargetsIn.{are_targets, is_here}
use Rattle.explanation.proofs.steps.targets_in.Goals as goal

pub returns : goal.returns
returns g c =
    let targets = c.args.targets.now in
    let area = c.args.area in
    IfOk-weaker c.collect.result _ _
    (λ v h. subst (λ (l : List Vertex). AreTargetsIn targets area l) (sym h) (are_targets targets area))
    (items_from_collect c.collect.result c.collect.ensures.ran
    (YieldsList-from_map _ (λ (t : Target). t.vertex)
    (YieldsList-from_filter _ (is_here targets area) (YieldsList-from_slice targets cc)
    (ap (λ s. s.p) c.map.ensures.source ∙ c.filter.ensures.closure) (λ x b q k. search (rules, tests)))
    c.map.ensures.closure (λ x r q k. search rules)))
