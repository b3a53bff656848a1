use Rattle.std.proofs.Common.{List, subst}
use Rattle.lsdb.specs.Slots.{lists_of}
use Rattle.forwarding.specs.Graphs.{StepValue}
use Rattle.route_lines.specs.PathLines.{PathValue}
use Rattle.route_report.specs.Paths.{IsPathIn}
use Rattle.route_report.proofs.OnTheWay.{if_ok, whole_path}
use Rattle.route_report.proofs.path.path_of.Goals as goal

pub returns : goal.returns
returns g c =
    let db = lists_of c.args.database.now in
    if_ok
    (λ (path : PathValue) is. whole_path db c.args.start c.args.address c.in_ok-forwarding.forwarding c.in_ok-forwarding.ensures.forwarding path
    (subst (λ (graph : List StepValue). IsPathIn db c.in_ok-forwarding.forwarding.routers graph c.args.start path) c.in_ok-forwarding.ensures.graph is))
    c.path_in.result c.path_in.ensures
