use Rattle.std.proofs.Common.{◌∙◌, Bor, List, Option, Some, ap, sym, subst}
use Rattle.std.specs.Option.{option_copied}
use Rattle.std.specs.Prelude.{All}
use Rattle.std.proofs.lemmas.Bool.{OnTrue_at, OnTrue_from}
use Rattle.lsa_codec.specs.declared.address.RouterId.{RouterId}
use Rattle.next_hops.specs.declared.hop.Hop.{Hop}
use Rattle.best_ways.specs.Values.{RouteValue}
use Rattle.loop_report.specs.steps.Falling.{FallsOver}
use Rattle.loop_report.proofs.Reading.{same_router}
use Rattle.loop_report.proofs.falling.falls.Goals as goal

pub returns-in-Some-Some : goal.returns-in-Some-Some
returns-in-Some-Some g c =
    OnTrue_from c.falls_over_all.result _ (λ yes. λ db are.
    let routers = c.args.forwarding.now.routers in
    let address = c.args.address in
    let router = c.args.routes.now.router in
    let known = c.args.known.now.router in
    let same = sym c.router.ensures ∙ same_router c.router.result c.router-2.result c.ne.result c.ne.ensures c.if-ne.false ∙ c.router-2.ensures in
    record {
      source = Some c.in-Some-Some.route.now;
      uses = c.in-Some-Some.ensures ∙ ap (λ (o : Option (Bor RouteValue)). Some (option_copied o)) c.in-Some-Some.field-0-is;
      along = subst (λ (r : RouteValue). All (FallsOver routers address db router r.cost) r.hops) c.route.view_is
          (subst (λ (v : RouterId). All (FallsOver routers address db v c.route.inside.cost) c.route.inside.hops) same
          (subst (λ (hops : List Hop). All (FallsOver routers address db known c.route.inside.cost) hops) c.as_slice-hops.ensures.hops
          (OnTrue_at yes c.falls_over_all.ensures db are)));
    })
