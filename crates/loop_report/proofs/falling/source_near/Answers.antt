use Rattle.std.proofs.Common.{◌∙◌, ℕ, List, ap, subst}
use Rattle.std.proofs.lemmas.Bool.{OnTrue_at}
use Rattle.lsa_codec.specs.Prefix.{Net}
use Rattle.best_ways.specs.Values.{RouteValue}
use Rattle.loop_report.specs.steps.Falling.{IsLongestRoute, NoneCovers}
use Rattle.loop_report.proofs.Sources.{source_is_route}
use Rattle.loop_report.proofs.falling.source_near.Goals as goal

pub returns-then-none_covers : goal.returns-then-none_covers
returns-then-none_covers g c =
    let r = c.args.routes.now in
    let route = c.in-Some.route.now in
    source_is_route r c.args.address route
    (subst (λ (rs : List RouteValue). IsLongestRoute rs c.args.address route) c.routes.ensures c.in-Some.ensures)
    (subst (λ (n : ℕ). NoneCovers r.own c.args.address n) (c.len.ensures.len ∙ ap (λ (x : RouteValue). x.net.len) c.route.view_is)
    (subst (λ (nets : List Net). NoneCovers nets c.args.address c.len.result) c.own.ensures (OnTrue_at c.if-none_covers.true c.none_covers.ensures)))
