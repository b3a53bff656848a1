use Rattle.std.proofs.Common.{ℕ, List, subst, sym}
use Rattle.external_routes.specs.ExternalLsas.{AreListedOf}
use Rattle.recalculate.proofs.touched.drop_externals.Goals as goal

pub returns-else-changes_as_scope : goal.returns-else-changes_as_scope
returns-else-changes_as_scope g c = λ is.
    subst (λ (lsas : List (List ℕ)). AreListedOf lsas c.args.externals.now) (sym (c.changes_as_scope.ensures c.if-changes_as_scope.false)) is
