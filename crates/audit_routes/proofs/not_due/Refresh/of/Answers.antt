use Rattle.std.proofs.Common.{◌∙◌, List, ap}
use Rattle.lsa_codec.specs.declared.address.RouterId.{RouterId}
use Rattle.lsdb.specs.Lists.{Lists}
use Rattle.lsdb.specs.Slots.{lists_of}
use Rattle.summary_metrics.specs.Refreshed.{refreshed}
use Rattle.audit_routes.specs.NotDue.{RefreshValue}
use Rattle.audit_routes.proofs.not_due.Refresh.of.Goals as goal

pub returns : goal.returns
returns g c =
    let db = lists_of c.args.database.now in
    let value : Lists → List RouterId → RefreshValue = λ after borders. record { db = db; after = after; borders = borders } in
    ap (λ (after : Lists). value after c.in_ok-borders.borders) c.in_ok-after.ensures
    ∙ ap (λ (borders : List RouterId). value (refreshed db) borders) c.in_ok-borders.ensures
