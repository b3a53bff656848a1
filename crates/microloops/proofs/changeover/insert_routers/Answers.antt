use Rattle.std.proofs.Common.{◌∙◌, List, subst}
use Rattle.std.specs.List.{All}
use Rattle.std.proofs.lemmas.List.{take_all}
use Rattle.std.proofs.lemmas.List.Elements.{All-more, All-weaker}
use Rattle.std.proofs.Common.{take}
use Rattle.forwarding.specs.Graphs.{StepValue}
use Rattle.microloops.specs.steps.Groups.{Has}
use Rattle.microloops.proofs.Sets.{has_more, has_new}
use Rattle.microloops.proofs.changeover.insert_routers.Goals as goal

pub loop-step-preserved : goal.loop-step-preserved
loop-step-preserved g c =
    let steps = c.as_slice-step-items.result.now in
    let before = c.loop-step.routers in
    let after = c.insert.new.self in
    let router = c.step.inside.router in
    record {
      kept = λ v h. has_more before after router c.in_ok-insert.ensures.updates v (c.loop-step.invariant.kept v h);
      all = All-more (λ s. Has after s.router) steps c.loop-step.step-index c.step-item.result c.loop-step-test.true
          (All-weaker (λ s. Has before s.router) (λ s. Has after s.router) (λ s h. has_more before after router c.in_ok-insert.ensures.updates s.router h)
          (take c.loop-step.step-index steps) c.loop-step.invariant.all)
          (subst (λ (s : StepValue). Has after s.router) (c.step.view_is ∙ c.step-item.is) (has_new before after router c.in_ok-insert.ensures.updates));
    }

pub returns-clause-all : goal.returns-clause-all
returns-clause-all g c =
    subst (λ (steps : List StepValue). All (λ s. Has c.loop-step.routers s.router) steps)
    (take_all c.loop-step.step-index c.as_slice-step-items.result.now c.loop-step-test.false ∙ c.as_slice-step-items.ensures.steps) c.loop-step.invariant.all
