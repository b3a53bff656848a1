use Rattle.std.proofs.lemmas.Result.{IfOk-weaker}
use Rattle.lsdb_merge.proofs.ReportedScopes.{scopes_of}
use Rattle.lsdb_merge.proofs.scopes.scopes.Goals as goal

pub returns-clause-all : goal.returns-clause-all
returns-clause-all g c =
    IfOk-weaker c.each_once.result _ _
    (λ once h. scopes_of c.args.areas.now c.args.newest.now c.in_ok-reported_scopes.field-0.items c.in_ok-sorted.field-0.items c.deref.result.now once.items
    c.in_ok-reported_scopes.ensures c.in_ok-sorted.ensures.same c.deref.ensures.value h) c.each_once.ensures
