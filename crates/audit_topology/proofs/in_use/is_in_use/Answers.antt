use Rattle.std.proofs.Common.{◌≡◌, ◌∙◌, List, ap}
use Rattle.std.specs.Prelude.{◌||◌}
use Rattle.std.specs.List.{list_any}
use Rattle.std.proofs.lemmas.Result.{IfOk-weaker}
use Rattle.area_graph.specs.declared.vertex.Vertex.{Vertex}
use Rattle.audit_areas.specs.Areas.{edges_in, has_end, is_other}
use Rattle.audit_topology.specs.Networks.{leads_elsewhere}
use Rattle.audit_topology.proofs.in_use.is_in_use.Goals as goal

pub returns : goal.returns
returns g c =
    let area = c.args.area.now in
    let ends = c.in_ok-ends.ends.items in
    let elsewhere = leads_elsewhere c.args.areas.now c.args.network in
    let inner : (router : Vertex) → list_any (is_other router) ends ≡ has_end (edges_in area) c.args.network (is_other router) =
    λ router. c.in_ok-ends.ensures (is_other router) in
    IfOk-weaker c.some_shows_use.result _ _
    (λ shows is. is
    ∙ ap (λ (vs : List Vertex). list_any (λ router. list_any (is_other router) vs || elsewhere router) vs) c.deref.ensures.value
    ∙ (λ i. list_any (λ router. inner router i || elsewhere router) ends)
    ∙ c.in_ok-ends.ensures (λ router. has_end (edges_in area) c.args.network (is_other router) || elsewhere router))
    c.some_shows_use.ensures
