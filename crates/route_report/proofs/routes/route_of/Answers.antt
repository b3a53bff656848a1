use Rattle.std.proofs.Common.{ap, ◌∙◌}
use Rattle.std.proofs.lemmas.Result.{IfOk-weaker}
use Rattle.lsdb.specs.Slots.{lists_of}
use Rattle.forwarding.specs.Matches.{RouterValue}
use Rattle.route_report.specs.Lines.{line_for}
use Rattle.route_report.proofs.routes.route_of.Goals as goal

pub returns : goal.returns
returns g c =
    IfOk-weaker c.route_line.result _ _
    (λ line are. are c.in_ok-graphs.ensures
    ∙ ap (λ (r : RouterValue). line_for (lists_of c.args.database.now) r c.args.net) c.in_ok-routes.ensures)
    c.route_line.ensures
