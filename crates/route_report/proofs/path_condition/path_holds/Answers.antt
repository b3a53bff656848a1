use Rattle.std.proofs.Common.{◌≡◌, ◌↔◌, true, List, subst}
use Rattle.lsdb.specs.Slots.{lists_of}
use Rattle.forwarding.specs.Graphs.{StepValue}
use Rattle.route_report.specs.Passing.{HoldsIn}
use Rattle.route_report.specs.Paths.{IsPathIn}
use Rattle.route_report.proofs.OnTheWay.{whole_holds, whole_path}
use Rattle.route_report.proofs.path_condition.path_holds.Goals as goal

pub returns-clause-path : goal.returns-clause-path
returns-clause-path g c =
    let db = lists_of c.args.database.now in
    whole_path db c.args.start c.args.address c.in_ok-forwarding.forwarding c.in_ok-forwarding.ensures.forwarding c.in_ok-path.path
    (subst (λ (graph : List StepValue). IsPathIn db c.in_ok-forwarding.forwarding.routers graph c.args.start c.in_ok-path.path)
    c.in_ok-forwarding.ensures.graph c.in_ok-path.ensures)

pub returns-clause-holds : goal.returns-clause-holds
returns-clause-holds g c =
    let db = lists_of c.args.database.now in
    whole_holds db c.args.start c.args.address c.in_ok-forwarding.forwarding c.in_ok-forwarding.ensures.forwarding c.in_ok-path.path
    c.args.passing c.in_ok-holds.holds
    (subst (λ (graph : List StepValue). (c.in_ok-holds.holds ≡ true) ↔ HoldsIn graph c.args.start c.in_ok-path.path c.args.passing)
    c.in_ok-forwarding.ensures.graph c.in_ok-holds.ensures)
