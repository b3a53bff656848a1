use Rattle.std.proofs.Common.{◌<◌, ◌^◌, ◌∙◌, subst, sym}
use Rattle.std.proofs.lemmas.List.Elements.{All-nil}
use Rattle.std.proofs.lemmas.Result.{IfOk-weaker}
use Rattle.lsdb.specs.declared.section.Section.TheVariants.{AsWide}
use Rattle.lsdb.specs.Lists.{lsas_of}
use Rattle.lsdb.specs.Slots.{lists_of}
use Rattle.best_ways.specs.Values.{RouteValue, RoutesBelow}
use Rattle.external_routes.specs.ExternalLsas.{AreExternalLsasOf}
use Rattle.external_routes.specs.steps.Lookup.{WaysBelow}
use Rattle.external_routes.proofs.Small.{candidates_small}
use Rattle.external_routes.proofs.Whole.{examines_empty, examines_listed, examines_none, gathered, listed}
use Rattle.external_routes.proofs.routes.externals.Goals as goal

pub returns-then-count-eq0-clause-routes : goal.returns-then-count-eq0-clause-routes
returns-then-count-eq0-clause-routes g c =
    c.new.ensures ∙ examines_empty (lists_of c.args.database.now) c.args.router c.args.routes.now c.args.entries.now
    (sym c.count-count.ensures ∙ c.if-count-eq0.true)

pub returns-then-count-eq0-clause-small : goal.returns-then-count-eq0-clause-small
returns-then-count-eq0-clause-small g c =
    subst (RoutesBelow (2 ^ 35)) (sym c.new.ensures) (All-nil (λ (r : RouteValue). r.cost < 2 ^ 35))

pub returns-then-not-is_attached_outside_stubs-clause-routes : goal.returns-then-not-is_attached_outside_stubs-clause-routes
returns-then-not-is_attached_outside_stubs-clause-routes g c =
    c.new-then-not-is_attached_outside_stubs.ensures ∙ examines_none (lists_of c.args.database.now) c.args.router c.args.routes.now c.args.entries.now
    (sym c.is_attached_outside_stubs.ensures ∙ c.if-not-is_attached_outside_stubs.true)

pub returns-then-not-is_attached_outside_stubs-clause-small : goal.returns-then-not-is_attached_outside_stubs-clause-small
returns-then-not-is_attached_outside_stubs-clause-small g c = subst (RoutesBelow (2 ^ 35)) (sym c.new-then-not-is_attached_outside_stubs.ensures) (All-nil (λ (r : RouteValue). r.cost < 2 ^ 35))

pub returns-clause-routes : goal.returns-clause-routes
returns-clause-routes g c =
    let db = lists_of c.args.database.now in
    let found = c.as_slice.result.now in
    let are = subst (AreExternalLsasOf (lsas_of AsWide db)) (sym c.as_slice.ensures) c.requires in
    let at = gathered c.args.router c.args.routes.now c.args.entries.now found c.in_ok-inside.inside c.in_ok-ways.ways
    c.in_ok-inside.ensures.value c.in_ok-ways.ensures in
    let examines = sym c.is_attached_outside_stubs.ensures ∙ c.if-not-is_attached_outside_stubs.false in
    IfOk-weaker c.into_routes.result _ _ (λ x h. h (listed c.args.router c.args.routes.now c.args.entries.now found) at
    ∙ examines_listed db c.args.router c.args.routes.now c.args.entries.now found are examines) c.into_routes.ensures.routes

pub returns-clause-small : goal.returns-clause-small
returns-clause-small g c =
    let db = lists_of c.args.database.now in
    let found = c.as_slice.result.now in
    let are = subst (AreExternalLsasOf (lsas_of AsWide db)) (sym c.as_slice.ensures) c.requires in
    let at = gathered c.args.router c.args.routes.now c.args.entries.now found c.in_ok-inside.inside c.in_ok-ways.ways
    c.in_ok-inside.ensures.value c.in_ok-ways.ensures in
    let small = subst (WaysBelow (2 ^ 34)) c.in_ok-inside.ensures.value c.in_ok-inside.ensures.below in
    let below = candidates_small c.args.router c.args.routes.now c.args.entries.now small.routes small.entries (lsas_of AsWide db) found are in
    IfOk-weaker c.into_routes.result _ _ (λ x h. h (2 ^ 35) (listed c.args.router c.args.routes.now c.args.entries.now found) at below)
    c.into_routes.ensures.small
