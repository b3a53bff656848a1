use Rattle.std.proofs.Common.{rules, ap, ◌∙◌}
use Rattle.std.proofs.lemmas.List.Sorted.{answers_always}
use Rattle.lsa_codec.proofs.OrderLemmas.{router_total}
use Rattle.best_ways.proofs.SearchLemmas.{found_at, not_found}
use Rattle.forwarding.specs.Graphs.{step_at}
use Rattle.forwarding.proofs.graph.ForwardingGraph.step.Goals as goal

pub returns-in-Ok : goal.returns-in-Ok
returns-in-Ok g c =
    let at = c.in-Ok.ensures.position (λ s. s.router) (answers_always _ _ _ (λ f a r h called. search rules)) in
    found_at router_total (λ s. s.router) c.args.router c.as_slice-steps.result.now c.in-Ok.index c.as_slice-steps.ensures.sorted c.in-Ok.ensures.bound at
    c.index-steps-index.result c.index-steps-index.is
    ∙ ap (λ graph. step_at graph c.args.router) c.as_slice-steps.ensures.steps

pub returns-in-Err : goal.returns-in-Err
returns-in-Err g c =
    let at = c.in-Err.ensures.position (λ s. s.router) (answers_always _ _ _ (λ f a r h called. search rules)) in
    not_found router_total (λ s. s.router) c.args.router c.as_slice-steps.result.now c.in-Err.field-0 c.as_slice-steps.ensures.sorted at
    ∙ ap (λ graph. step_at graph c.args.router) c.as_slice-steps.ensures.steps
