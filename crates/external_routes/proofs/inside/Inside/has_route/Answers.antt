use Rattle.std.proofs.Common.{◌≡◌, false, get_or, ap, sym, ◌∙◌}
use Rattle.best_ways.specs.Routes.{has_route}
use Rattle.external_routes.specs.steps.Lookup.{WaysInside}
use Rattle.external_routes.proofs.UnmarkedLengths.{unmarked_no_route}
use Rattle.external_routes.proofs.inside.Inside.has_route.Goals as goal

pub returns-then-not-self-from-clause-result : goal.returns-then-not-self-from-clause-result
returns-then-not-self-from-clause-result g c =
    let marks = c.self.inside.lengths in
    let len : c.from.result ≡ c.args.net.len = c.from.ensures ∙ c.len.ensures.len in
    let unmarked = ap (λ n. get_or marks n false) (sym len) ∙ c.if-not-self-from.true in
    sym (unmarked_no_route c.self.inside.routes.now marks c.self.invariant.marked c.args.net unmarked)
    ∙ ap (λ (w : WaysInside). has_route w.routes c.args.net) c.self.view_is
