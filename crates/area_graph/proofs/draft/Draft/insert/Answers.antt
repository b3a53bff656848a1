use Rattle.std.proofs.Common.{◌∙◌, ap, subst, sym, ◌<◌, length}
use Rattle.std.proofs.lemmas.Result.{on_ok_weaker, on_err_weaker}
use Rattle.area_graph.specs.Topology.{Topology}
use Rattle.area_graph.specs.steps.Drafts.{with_edge}
use Rattle.area_graph.proofs.DraftSteps.{draft_set, draft_same, draft_kept, ok_or_err}
use Rattle.area_graph.proofs.draft.Draft.insert.Goals as goal

pub returns-clause-added : goal.returns-clause-added
returns-clause-added g c =
    let within = subst (λ (t : Topology). c.args.row < length t.vertices) (sym c.self.view_is) c.requires.row in
    on_ok_weaker c.add_to_row.result
    (λ added. draft_set
    (λ row. row.items) c.self.inside.vertices.keys c.self.inside.rows.items c.args.row c.index_mut.result.now c.add_to_row.new.row c.args.edge
    c.self.invariant within c.index_mut.ensures.value added
    ∙ ap (λ (t : Topology). with_edge t c.args.row c.args.edge) c.self.view_is)
    c.add_to_row.ensures.added

pub returns-clause-same : goal.returns-clause-same
returns-clause-same g c =
    on_err_weaker c.add_to_row.result
    (λ same. draft_same
    (λ row. row.items) c.self.inside.vertices.keys c.self.inside.rows.items c.args.row c.index_mut.result.now c.add_to_row.new.row c.args.edge
    c.index_mut.ensures.value same
    ∙ c.self.view_is)
    c.add_to_row.ensures.same

pub invariant_of-self : goal.invariant_of-self
invariant_of-self g c =
    let within = subst (λ (t : Topology). c.args.row < length t.vertices) (sym c.self.view_is) c.requires.row in
    let to = subst (λ (t : Topology). c.args.edge.to < length t.vertices) (sym c.self.view_is) c.requires.to in
    draft_kept (λ row. row.items) c.self.inside.vertices.keys c.self.inside.rows.items c.args.row c.index_mut.result.now c.add_to_row.new.row c.args.edge
    c.self.invariant within to c.requires.cost c.index_mut.ensures.value
    (ok_or_err c.add_to_row.result c.add_to_row.ensures.added c.add_to_row.ensures.same)
