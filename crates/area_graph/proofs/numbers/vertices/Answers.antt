use Rattle.std.proofs.Common.{◌∙◌, ap}
use Rattle.area_graph.specs.Area.{vertex_of}
use Rattle.area_graph.specs.Vertex.{is_same}
use Rattle.indexmap.specs.IndexSet.{insert_key}
use Rattle.area_graph.proofs.VertexNumbers.{vertices_more}
use Rattle.area_graph.proofs.numbers.vertices.Goals as goal

pub loop-lsa-preserved : goal.loop-lsa-preserved
loop-lsa-preserved g c =
    let v = c.vertex_of.ensures ∙ ap vertex_of c.lsa.ensures in
    vertices_more c.args.lsas.now c.requires c.loop-lsa.lsa-index c.lsa-item.result c.loop-lsa-test.true c.lsa-item.is
    c.loop-lsa.found.keys c.add_vertex.new.vertices.keys c.loop-lsa.invariant (c.in_ok-add_vertex.ensures ∙ ap (insert_key is_same c.loop-lsa.found.keys) v)
