use Rattle.std.proofs.Common.{◌≡◌, ◌∙◌, map, ap}
use Rattle.std.specs.List.{list_any}
use Rattle.std.proofs.lemmas.Result.{IfOk-weaker}
use Rattle.lsa_codec.specs.Views.{attached_of}
use Rattle.area_graph.specs.declared.vertex.Vertex.{Vertex}
use Rattle.area_graph.specs.declared.vertex.Vertex.TheVariants.{Network}
use Rattle.area_graph.specs.Vertex.{is_same}
use Rattle.audit_links.specs.Links.{leads_from}
use Rattle.audit_links.specs.OneWay.{listed_router, not_led_to}
use Rattle.audit_links.proofs.one_way_members.listed_by.Goals as goal

pub returns : goal.returns
returns g c =
    let area = c.args.area.now in
    let lsa = c.args.network.now in
    let leads : (v : Vertex) → list_any (is_same v) c.deref.result.now ≡ leads_from area (Network (c.args.lsa.id)) v =
    λ v. ap (list_any (is_same v)) c.deref.ensures.value ∙ c.in_ok-ends.ensures (is_same v) in
    IfOk-weaker c.listed_routers.result _ _
    (λ listed is. is
    ∙ ap (map (listed_router c.args.lsa c.net.result)) (c.deref-2.ensures.value ∙ c.in_ok-routers.ensures ∙ λ i. not_led_to (λ v. leads v i) (attached_of lsa))
    ∙ λ i. map (listed_router (c.requires i) (c.net.ensures i)) (not_led_to (leads_from area (Network (c.requires i).id)) (attached_of lsa)))
    c.listed_routers.ensures
