use Rattle.std.proofs.Common.{◌∙◌, List, map, sym, ap, subst}
use Rattle.std.proofs.lemmas.List.{take_all}
use Rattle.forwarding.specs.Graphs.{ForwardingValue, step_of}
use Rattle.forwarding.specs.Matches.{RouterValue}
use Rattle.hop_ends.specs.Owners.{AreGraphsOf}
use Rattle.forwarding.proofs.Sorted.{more_ids, more_steps}
use Rattle.forwarding.proofs.forwarding.Forwarding.graph.Goals as goal

pub loop-routes-preserved : goal.loop-routes-preserved
loop-routes-preserved g c =
    let rs = c.deref-routes-items.result.now in
    let i = c.loop-routes.routes-index in
    let r = c.routes-item.result in
    let lt = c.loop-routes-test.true in
    record {
      routers = more_ids rs i r lt c.routes-item.is c.loop-routes.steps.items c.push.new.self.items c.in_ok-step_of.field-0
          c.in_ok-push.ensures.items c.in_ok-step_of.ensures.router c.loop-routes.invariant.routers;
      steps = λ db are. more_steps rs i r lt c.routes-item.is (step_of db c.args.address) c.loop-routes.steps.items c.push.new.self.items
          c.in_ok-step_of.field-0 c.in_ok-push.ensures.items (c.in_ok-step_of.ensures.step db (subst (λ (f : ForwardingValue). AreGraphsOf db f.graphs) (sym c.self.view_is) are)) (c.loop-routes.invariant.steps db are);
    }

pub returns : goal.returns
returns g c = λ db is.
    c.from_sorted.ensures ∙ c.loop-routes.invariant.steps db is.graphs
    ∙ ap (λ (rs : List RouterValue). map (step_of db c.args.address) rs)
    (take_all c.loop-routes.routes-index c.deref-routes-items.result.now c.loop-routes-test.false ∙ c.deref-routes-items.ensures.value
    ∙ ap (λ (f : ForwardingValue). f.routers) c.self.view_is ∙ is.routers)
