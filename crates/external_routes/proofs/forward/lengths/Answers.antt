use Rattle.std.proofs.Common.{◌≡◌, ◌≤◌, ap, subst, ◌∙◌}
use Rattle.external_routes.proofs.Marks.{marks_all, marks_more}
use Rattle.external_routes.proofs.forward.lengths.Goals as goal

pub loop-route-preserved : goal.loop-route-preserved
loop-route-preserved g c =
    let len : c.from.result ≡ c.route-item.result.net.len = c.from.ensures ∙ c.len.ensures.len ∙ ap (λ r. r.net.len) c.route.view_is in
    rw len (marks_more c.args.routes.now c.loop-route.marks c.loop-route.route-index c.route-item.result
    c.loop-route.invariant.0 c.loop-route.invariant.1 c.loop-route-test.true c.route-item.is
    (subst (λ r. r.net.len ≤ 32) c.route.view_is c.len.ensures.prefix.short))

pub returns : goal.returns
returns g c = marks_all c.args.routes.now c.loop-route.marks c.loop-route.route-index c.loop-route-test.false c.loop-route.invariant.1
