use Rattle.std.proofs.Common.{[], ◌++◌, ◌∙◌, Option, ap}
use Rattle.std.specs.List.{cons_option}
use Rattle.lsa_codec.specs.declared.address.RouterId.{RouterId}
use Rattle.area_routes.proofs.AddsLemmas.{filter_map_adds}
use Rattle.link_report.proofs.PushedLemmas.{made_all, made_at}
use Rattle.audit_topology.specs.steps.Numbers.{router_at}
use Rattle.audit_topology.proofs.part.routers_at.Goals as goal

pub loop-number-preserved : goal.loop-number-preserved
loop-number-preserved g c =
    let routers = c.loop-number.routers.items in
    made_at (filter_map_adds (router_at c.args.graph.now)) c.args.numbers.now c.loop-number.number-index 0 routers _ c.loop-number-test.true
    c.loop-number.invariant
    (c.in_ok-push_some.ensures ∙ ap (λ (o : Option RouterId). routers ++ cons_option o []) c.router_at.ensures)

pub returns : goal.returns
returns g c =
    made_all (filter_map_adds (router_at c.args.graph.now)) c.args.numbers.now c.loop-number.number-index c.loop-number.routers.items
    c.loop-number-test.false c.loop-number.invariant
