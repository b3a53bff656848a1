use Rattle.std.proofs.Common.{◌≡◌, IfOk, subst}
use Rattle.lsdb.specs.Lists.{Lists}
use Rattle.audit_routes.specs.Missing.{missing_places}
use Rattle.audit_routes.proofs.missing.summary_missing_places.Goals as goal

pub returns : goal.returns
returns g c =
    subst (λ (db : Lists). IfOk c.missing_places.result (λ places. places.items ≡ missing_places db)) c.in_ok-after.ensures c.missing_places.ensures
