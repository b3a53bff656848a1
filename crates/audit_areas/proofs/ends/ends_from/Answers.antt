use Rattle.std.proofs.Common.{◌∙◌, List, map, ap}
use Rattle.std.specs.List.{list_any}
use Rattle.std.proofs.lemmas.Result.{IfOk-weaker}
use Rattle.area_graph.specs.declared.vertex.Vertex.{Vertex}
use Rattle.audit_areas.specs.steps.Ends.{end_at}
use Rattle.audit_areas.proofs.EndsOut.{none_out, row_ends}
use Rattle.audit_areas.proofs.ends.ends_from.Goals as goal

pub returns-in-Some : goal.returns-in-Some
returns-in-Some g c =
    let t = c.args.graph.now in
    IfOk-weaker c.ends_of.result _ _
    (λ ends is. λ lsas graph test.
    ap (λ (vs : List Vertex). list_any test vs) (is ∙ ap (map (end_at t)) c.edges.ensures.row)
    ∙ row_ends lsas t graph c.args.vertex c.in-Some.number c.in-Some.ensures.number test)
    c.ends_of.ensures

pub returns-in-None : goal.returns-in-None
returns-in-None g c = λ lsas graph test.
    ap (λ (vs : List Vertex). list_any test vs) c.new.ensures.items ∙ none_out lsas c.args.graph.now graph c.args.vertex c.in-None.ensures.absent test
