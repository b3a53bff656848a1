use Rattle.std.proofs.Common.{◌∙◌, sym, ap, List}
use Rattle.std.proofs.lemmas.Result.{on_ok_weaker}
use Rattle.area_graph.specs.declared.vertex.Vertex.{Vertex}
use Rattle.area_graph.specs.steps.Drafts.{arc_of, is_network_at}
use Rattle.area_graph.proofs.AddedEdges.{Adds-one_way, Adds-both_ways}
use Rattle.area_graph.proofs.links.add_both.Goals as goal

pub returns-then-not-is_network-clause-edges : goal.returns-then-not-is_network-clause-edges
returns-then-not-is_network-clause-edges g c =
    Adds-one_way c.args.draft.now.vertices (arc_of c.args.from c.args.edge) c.args.draft.now c.add.new.self
    (ap (λ (vs : List Vertex). is_network_at vs c.args.edge.to) (sym c.in_ok-add.ensures.vertices) ∙ sym c.is_network.ensures.kind ∙ c.if-not-is_network.true)
    c.in_ok-add.ensures.edges

pub returns-clause-edges : goal.returns-clause-edges
returns-clause-edges g c =
    on_ok_weaker c.add-2.result
    (Adds-both_ways c.args.draft.now.vertices (arc_of c.args.from c.args.edge) c.args.draft.now c.add.new.self c.add-2.new.self
    (ap (λ (vs : List Vertex). is_network_at vs c.args.edge.to) (sym c.in_ok-add.ensures.vertices) ∙ sym c.is_network.ensures.kind ∙ c.if-not-is_network.false)
    c.in_ok-add.ensures.edges)
    c.add-2.ensures.edges
