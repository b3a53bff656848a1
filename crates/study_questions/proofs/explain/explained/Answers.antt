use Rattle.std.proofs.Common.{Option, subst}
use Rattle.std.specs.Prelude.{IfOk}
use Rattle.lsdb.specs.Slots.{lists_of}
use Rattle.explanation.specs.Whole.{IsExplanation}
use Rattle.route_candidates.specs.RouterViews.{RouterViewValue}
use Rattle.route_lines.specs.RouteLines.{RouteLineValue}
use Rattle.route_report.specs.Lines.{route_of}
use Rattle.study_questions.proofs.explain.explained.Goals as goal

-- the view is of this database and router, and the route is theirs
pub returns : goal.returns
returns g c =
    let net = c.args.net in
    let route = route_of (lists_of c.args.database.now) c.args.router net in
    subst (λ (view : RouterViewValue). IfOk c.of-2.result (IsExplanation view net route)) c.in_ok-view.ensures
    (subst (λ (r : Option RouteLineValue). IfOk c.of-2.result (IsExplanation c.in_ok-view.view net r)) c.in_ok-route.ensures c.of-2.ensures)
