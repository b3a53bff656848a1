use Rattle.std.proofs.Common.{sym, ◌∙◌}
use Rattle.first_ends.proofs.EndsOver.{one_end}
use Rattle.first_ends.proofs.neighbors.insert_end.Goals as goal

pub returns : goal.returns
returns g c =
    one_end _ _ c.args.router c.args.interface c.args.edge.now c.in-Some.end (sym c.end_over.ensures ∙ c.in-Some.is) c.in_ok-insert.ensures.keys
