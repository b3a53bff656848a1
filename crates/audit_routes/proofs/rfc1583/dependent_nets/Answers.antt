use Rattle.std.proofs.Common.{◌∙◌, List, ap}
use Rattle.std.proofs.lemmas.Result.{IfOk-weaker}
use Rattle.lsdb.specs.Slots.{lists_of}
use Rattle.best_ways.specs.Values.{RouteValue}
use Rattle.audit_routes.specs.Compatibility.{classless, dependent_nets, externals_over}
use Rattle.audit_routes.specs.Ways.{WaysValue}
use Rattle.audit_routes.proofs.rfc1583.dependent_nets.Goals as goal

pub returns : goal.returns
returns g c =
    let db = lists_of c.args.database.now in
    let w = c.args.ways.now in
    IfOk-weaker c.dependent_among.result _ _
    (λ v h. h
    ∙ ap (λ (others : List RouteValue). dependent_nets others c.as_slice.result.now)
    (c.in_ok-others.ensures ∙ ap (λ (v : WaysValue). externals_over db v) c.in_ok-classless.ensures)
    ∙ ap (λ (routes : List RouteValue). dependent_nets (externals_over db (classless w)) routes) (c.as_slice.ensures.routes ∙ c.in_ok-routes.ensures))
    c.dependent_among.ensures
