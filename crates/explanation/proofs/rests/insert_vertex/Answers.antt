use Rattle.std.proofs.Common.{ap, sym, ◌∙◌, Some}
use Rattle.std.specs.BTreeSet.{insert_key}
use Rattle.lsa_codec.specs.declared.address.AreaId.{AreaId}
use Rattle.lsa_codec.specs.declared.address.RouterId.{RouterId}
use Rattle.area_graph.specs.declared.vertex.Vertex.{Vertex}
use Rattle.lsa_names.specs.LsaNames.{lsa_name}
use Rattle.explanation.specs.WaySteps.{rest_of}
use Rattle.explanation.specs.steps.Resting.{is_on_paths}
use Rattle.explanation.proofs.OneRest.{lsa_rest}
use Rattle.explanation.proofs.Orders.{rest_cmp}
use Rattle.explanation.proofs.rests.insert_vertex.Goals as goal

pub returns-in_ok-insert : goal.returns-in_ok-insert
returns-in_ok-insert g c =
    let view = c.args.view.now in
    let targets = c.args.targets.now in
    let edges = c.args.edges.now in
    let lsa = c.args.lsa.now in
    let old = c.args.rests.now.keys in
    lsa_rest old _ view targets edges lsa
    (sym (c.is_on_paths.ensures ∙ ap (λ (r : RouterId). is_on_paths r targets edges c.vertex_of.result) c.router.ensures
    ∙ ap (λ (v : Vertex). is_on_paths view.router targets edges v) c.vertex_of.ensures) ∙ c.if-is_on_paths.true)
    (c.in_ok-insert.ensures.keys
    ∙ ap (insert_key rest_cmp old) (c.of-then-is_on_paths.ensures ∙ ap rest_of (c.of.ensures ∙ ap (λ (a : AreaId). lsa_name (Some a) lsa) c.area.ensures)))
