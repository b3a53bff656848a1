use Rattle.std.proofs.Common.{◌∙◌, not, ap}
use Rattle.audit_areas.proofs.EndsOut.{none_has, row_has}
use Rattle.audit_areas.proofs.ends.has_edge.Goals as goal

pub returns-in-Some : goal.returns-in-Some
returns-in-Some g c = λ lsas graph.
    ap not c.is_empty.ensures
    ∙ row_has lsas c.args.graph.now graph c.args.vertex c.in-Some.number c.in-Some.ensures.number c.edges.result.now c.edges.ensures.row

pub returns-in-None : goal.returns-in-None
returns-in-None g c = λ lsas graph. none_has lsas c.args.graph.now graph c.args.vertex c.in-None.ensures.absent
