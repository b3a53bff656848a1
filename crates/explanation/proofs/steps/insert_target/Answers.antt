use Rattle.std.proofs.Common.{ap, sym, ◌∙◌}
use Rattle.std.specs.BTreeSet.{insert_key}
use Rattle.std.proofs.lemmas.Bool.{false≢true}
use Rattle.area_graph.specs.declared.vertex.Vertex.TheVariants.{Network}
use Rattle.explanation.proofs.OnPaths.{any_member, contains_is, member_any}
use Rattle.explanation.proofs.OneRest.{no_target, step_to_target}
use Rattle.explanation.proofs.Orders.{step_cmp}
use Rattle.explanation.proofs.steps.insert_target.Goals as goal

pub returns-in_ok-insert : goal.returns-in_ok-insert
returns-in_ok-insert g c =
    let targets = c.args.targets.now in
    step_to_target c.args.steps.now.keys _ c.args.start c.args.network targets
    (any_member targets (Network c.args.network)
    (sym (c.contains.ensures.value ∙ contains_is targets (Network c.args.network)) ∙ c.if-contains.true))
    (c.in_ok-insert.ensures.keys ∙ ap (insert_key step_cmp c.args.steps.now.keys) c.step.ensures)

pub returns-else-contains : goal.returns-else-contains
returns-else-contains g c =
    let targets = c.args.targets.now in
    no_target c.args.steps.now.keys c.args.start c.args.network targets
    (λ there. false≢true
    (sym c.if-contains.false ∙ (c.contains.ensures.value ∙ contains_is targets (Network c.args.network))
    ∙ member_any targets (Network c.args.network) there))
