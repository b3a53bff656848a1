use Rattle.std.proofs.Common.{◌≡◌, ◌∙◌, ap}
use Rattle.std.specs.List.{filter_map, list_any}
use Rattle.std.proofs.lemmas.Result.{IfOk-weaker}
use Rattle.area_graph.specs.declared.vertex.Vertex.{Vertex}
use Rattle.area_graph.specs.declared.vertex.Vertex.TheVariants.{Router}
use Rattle.area_graph.specs.Rising.{rising}
use Rattle.area_graph.specs.Vertex.{is_same}
use Rattle.audit_links.specs.Links.{leads_from}
use Rattle.audit_links.specs.Neighbors.{at_address_cmp, neighbor_over}
use Rattle.audit_links.proofs.neighbors.neighbors_of.Goals as goal

pub returns : goal.returns
returns g c =
    let area = c.args.area.now in
    let leads : (v : Vertex) → list_any (is_same v) c.deref.result.now ≡ leads_from area (Router c.args.router) v =
    λ v. ap (list_any (is_same v)) c.deref.ensures.value ∙ c.in_ok-ends.ensures (is_same v) in
    let links = c.deref-2.ensures.value ∙ c.in_ok-links.ensures in
    IfOk-weaker c.rising.result _ _
    (λ found is. is
    ∙ ap (rising at_address_cmp)
    (c.deref-3.ensures.value ∙ c.in_ok-neighbors.ensures ∙ λ i. filter_map (neighbor_over (λ v. leads v i)) (links i)))
    c.rising.ensures
