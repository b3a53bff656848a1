use Rattle.std.proofs.Common.{◌∙◌, filter, ap}
use Rattle.std.proofs.lemmas.Result.{IfOk-weaker}
use Rattle.audit_areas.specs.Areas.{edges_in, lsas_in, routers_among}
use Rattle.audit_topology.specs.Parts.{is_path_between}
use Rattle.audit_topology.proofs.part.part_of.Goals as goal

pub returns : goal.returns
returns g c =
    let leads = is_path_between (edges_in c.args.area.now) c.args.root in
    IfOk-weaker c.reached_routers.result _ _
    (λ found is. is (lsas_in c.args.area.now) c.graph.ensures ∙ ap (λ vs. filter leads (routers_among vs)) c.graph.ensures.vertices)
    c.reached_routers.ensures
