use Rattle.std.proofs.Common.{◌≤◌, ◌++◌, ◌∙◌, [], Option, length, sym, ap, arith}
use Rattle.std.specs.List.{cons_option}
use Rattle.std.proofs.lemmas.Option.{get_or_from_slice_get, slice_get_within}
use Rattle.lsa_codec.specs.declared.address.RouterId.{RouterId}
use Rattle.area_routes.proofs.AddsLemmas.{filter_map_adds}
use Rattle.link_report.proofs.PushedLemmas.{made_all, made_at}
use Rattle.audit_areas.specs.Areas.{router_of}
use Rattle.audit_areas.proofs.routers.router_vertices.Goals as goal

pub loop-number-preserved : goal.loop-number-preserved
loop-number-preserved g c =
    let vertices = c.args.graph.now.vertices in
    let n = c.loop-number.number in
    let v = c.vertex.result in
    let routers = c.loop-number.routers.items in
    made_at (filter_map_adds router_of) vertices n v routers _ (slice_get_within vertices n v c.vertex.ensures.vertex) c.loop-number.invariant
    (c.in_ok-push_some.ensures
    ∙ ap (λ (o : Option RouterId). routers ++ cons_option o [])
    (c.router_of.ensures ∙ ap router_of (sym (get_or_from_slice_get vertices n v v c.vertex.ensures.vertex))))

pub returns : goal.returns
returns g c =
    let vertices = c.args.graph.now.vertices in
    let n = c.loop-number.number in
    let past : length vertices ≤ n = omega (arith, c.len-number-end.ensures.count, c.loop-number-test.false) in
    made_all (filter_map_adds router_of) vertices n c.loop-number.routers.items past c.loop-number.invariant
