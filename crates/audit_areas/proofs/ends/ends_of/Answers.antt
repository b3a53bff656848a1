use Rattle.std.proofs.Common.{[], ◌∷◌, ◌++◌, ◌∙◌, get_or, sym, ap}
use Rattle.std.proofs.lemmas.Option.{get_or_from_slice_get}
use Rattle.area_graph.specs.declared.edge.Edge.{Edge}
use Rattle.area_graph.specs.declared.vertex.Vertex.{Vertex}
use Rattle.area_graph.specs.declared.vertex.Vertex.TheVariants.{Router}
use Rattle.area_routes.proofs.AddsLemmas.{map_adds}
use Rattle.link_report.proofs.PushedLemmas.{made_all, made_at}
use Rattle.audit_areas.specs.steps.Ends.{end_at}
use Rattle.audit_areas.proofs.ends.ends_of.Goals as goal

abbrev no_edge : Edge
no_edge = record { to = 0; cost = 0; link_data = record { 0 = 0 } }

pub vertex-requires : goal.vertex-requires
vertex-requires g c = c.requires c.loop-edge.edge-index no_edge c.loop-edge-test.true

pub loop-edge-preserved : goal.loop-edge-preserved
loop-edge-preserved g c =
    let t = c.args.graph.now in
    let edges = c.args.edges.now in
    let i = c.loop-edge.edge-index in
    let ends = c.loop-edge.ends.items in
    made_at (map_adds (end_at t)) edges i no_edge ends _ c.loop-edge-test.true c.loop-edge.invariant
    (c.in_ok-push.ensures.items
    ∙ ap (λ (v : Vertex). ends ++ v ∷ [])
    (sym (get_or_from_slice_get t.vertices (get_or edges i no_edge).to c.vertex.result (Router (record { 0 = 0 })) c.vertex.ensures.vertex)))

pub returns : goal.returns
returns g c =
    made_all (map_adds (end_at c.args.graph.now)) c.args.edges.now c.loop-edge.edge-index c.loop-edge.ends.items c.loop-edge-test.false
    c.loop-edge.invariant
