use Rattle.std.proofs.Common.{[], ◌∙◌, List, get_or, take, sym, ap}
use Rattle.std.specs.Prelude.{fold}
use Rattle.std.proofs.lemmas.List.{take_all, take_more}
use Rattle.std.proofs.lemmas.List.Sums.{fold_push}
use Rattle.lsa_codec.specs.declared.address.RouterId.{RouterId}
use Rattle.audit_topology.specs.Parts.{with_part}
use Rattle.audit_topology.proofs.parts.parts_of.Goals as goal

abbrev no_router : RouterId
no_router = record { 0 = 0 }

pub loop-router-preserved : goal.loop-router-preserved
loop-router-preserved g c =
    let area = c.args.area.now in
    let routers = c.routers-router-items.result.now in
    let i = c.loop-router.router-index in
    let router = get_or routers i no_router in
    c.in_ok-add_part.ensures ∙ ap (λ (parts : List (List RouterId)). with_part area parts router) c.loop-router.invariant
    ∙ sym (ap (fold (with_part area) []) (take_more routers i no_router c.loop-router-test.true) ∙ fold_push (with_part area) [] (take i routers) router)

pub returns : goal.returns
returns g c =
    c.loop-router.invariant
    ∙ ap (fold (with_part c.args.area.now) [])
    (take_all c.loop-router.router-index c.routers-router-items.result.now c.loop-router-test.false ∙ c.routers-router-items.ensures)
