use Rattle.std.proofs.Common.{◌≡◌, ◌∙◌, ◌≤◌, ◌+◌, ℕ, suc, Option, sym, ap, subst, arith}
use Rattle.std.specs.List.{slice_get}
use Rattle.std.specs.Option.{option_copied}
use Rattle.std.proofs.lemmas.Bool.{OnTrue_at}
use Rattle.lsa_codec.specs.Prefix.{masked}
use Rattle.best_ways.specs.Values.{RouteValue}
use Rattle.loop_report.specs.steps.Falling.{IsAfter}
use Rattle.loop_report.proofs.LongestHere.{longest_here}
use Rattle.loop_report.proofs.Reading.{item_found, same_net}
use Rattle.loop_report.proofs.falling.match_at.Goals as goal

pub returns : goal.returns
returns g c =
    let routes = c.args.routes.now in
    let address = c.args.address in
    let next : c.args.index + 1 ≡ suc c.args.index = omega arith in
    let covers = sym (c.masked.ensures ∙ ap (λ (len : ℕ). masked address len) c.len.ensures.len)
    ∙ same_net c.masked.result c.route.inside.net c.ne.result c.ne.ensures c.if-ne.false in
    longest_here routes c.args.index c.in_ok-route.route.now address (omega arith) c.requires
    (sym (item_found routes c.args.index c.get.result c.get.ensures.lookup.0 c.get.ensures.lookup.1) ∙ ap option_copied c.in_ok-route.was)
    (subst (λ (r : RouteValue). masked address r.net.len ≡ r.net) c.route.view_is covers)
    (subst (λ (r : RouteValue). r.net.len ≤ 32) c.route.view_is c.len.ensures.prefix.short)
    (subst (λ (o : Option RouteValue). IsAfter address o)
    (item_found routes (c.args.index + 1) c.get-else-ne.result c.get-else-ne.ensures.lookup.0 c.get-else-ne.ensures.lookup.1
    ∙ ap (λ (n : ℕ). slice_get routes n) next)
    (OnTrue_at c.if-not-is_after.false c.is_after.ensures))
