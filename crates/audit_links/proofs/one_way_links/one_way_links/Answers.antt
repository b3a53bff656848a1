use Rattle.std.proofs.Common.{◌≡◌, ◌∙◌, ap}
use Rattle.std.specs.List.{list_any}
use Rattle.std.proofs.lemmas.Result.{IfOk-weaker}
use Rattle.area_graph.specs.declared.vertex.Vertex.{Vertex}
use Rattle.area_graph.specs.declared.vertex.Vertex.TheVariants.{Router}
use Rattle.area_graph.specs.Vertex.{is_same}
use Rattle.audit_links.specs.Links.{leads_from}
use Rattle.audit_links.specs.OneWay.{places_of_links}
use Rattle.audit_links.proofs.one_way_links.one_way_links.Goals as goal

pub returns : goal.returns
returns g c =
    let area = c.args.area.now in
    let leads : (v : Vertex) → list_any (is_same v) c.deref.result.now ≡ leads_from area (Router c.args.router) v =
    λ v. ap (list_any (is_same v)) c.deref.ensures.value ∙ c.in_ok-ends.ensures (is_same v) in
    let links = c.deref-2.ensures.value ∙ c.in_ok-links.ensures in
    IfOk-weaker c.places_of_links.result _ _
    (λ places is. is ∙ λ i. places_of_links (c.area.ensures i) c.args.router (λ v. leads v i) (links i))
    c.places_of_links.ensures
