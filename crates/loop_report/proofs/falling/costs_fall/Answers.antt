use Rattle.std.proofs.Common.{◌∙◌, List, sym, subst}
use Rattle.std.specs.Prelude.{All}
use Rattle.std.proofs.lemmas.Bool.{OnTrue_at, ltb-true}
use Rattle.std.proofs.lemmas.List.{take_all}
use Rattle.std.proofs.lemmas.List.Elements.{All-get_or, All-more}
use Rattle.forwarding.specs.Matches.{RouterValue}
use Rattle.loop_report.specs.steps.Falling.{Falls}
use Rattle.loop_report.specs.steps.Targets.{AreHopsOf, RouterHopsValue}
use Rattle.loop_report.proofs.falling.costs_fall.Goals as goal

pub loop-index-preserved : goal.loop-index-preserved
loop-index-preserved g c = λ db are.
    let routers = c.args.forwarding.now.routers in
    let known = c.in-Some.known.now in
    let found = c.in-Some.ensures.lookup in
    let known_are = subst (λ (k : RouterHopsValue). AreHopsOf db k) (sym found.1)
    (All-get_or (AreHopsOf db) c.args.hops.now c.loop-index.index known (ltb-true _ _ (sym found.0)) are) in
    All-more (Falls routers c.args.address db) c.routers-routers.result.now c.loop-index.index c.index-routers-index.result c.loop-index-test.true
    (c.loop-index.invariant db are)
    (subst (λ (r : RouterValue). Falls routers c.args.address db r) c.index-routers-index.is (OnTrue_at c.if-not-falls.false c.falls.ensures db known_are))

pub returns : goal.returns
returns g c = λ db are.
    subst (λ (rs : List RouterValue). All (Falls c.args.forwarding.now.routers c.args.address db) rs)
    (take_all c.loop-index.index c.routers-routers.result.now c.loop-index-test.false ∙ c.routers-routers.ensures.routers) (c.loop-index.invariant db are)
