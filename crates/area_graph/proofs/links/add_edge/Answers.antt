use Rattle.std.proofs.Common.{◌∙◌, sym}
use Rattle.std.proofs.lemmas.Result.{on_ok_weaker}
use Rattle.area_graph.specs.steps.Drafts.{arc_of}
use Rattle.area_graph.proofs.AddedEdges.{adds_not_returned, adds_returned}
use Rattle.area_graph.proofs.links.add_edge.Goals as goal

pub returns-then-not-names-clause-edges : goal.returns-then-not-names-clause-edges
returns-then-not-names-clause-edges g c =
    adds_not_returned c.args.draft.now.vertices c.args.back_links.now (arc_of c.args.from c.args.edge) c.args.draft.now
    (sym c.names.ensures ∙ c.if-not-names.true)

pub returns-clause-edges : goal.returns-clause-edges
returns-clause-edges g c =
    on_ok_weaker c.add_both.result
    (adds_returned c.args.draft.now.vertices c.args.back_links.now (arc_of c.args.from c.args.edge) c.args.draft.now c.add_both.new.draft
    (sym c.names.ensures ∙ c.if-not-names.false))
    c.add_both.ensures.edges
