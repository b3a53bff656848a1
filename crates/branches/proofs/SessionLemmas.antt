-- A branch that goes on with the session that it has leaves the sessions of all.
use Rattle.std.proofs.Common.{◌≡◌, ℕ, Bool, true, false, eqb, cond, refl, sym, ap}
use Rattle.std.proofs.lemmas.Bool.{eqb-true}
use Rattle.branches.specs.Branches.{Sessions, with_session}

own_at : (branch other : ℕ) (all : Sessions) (same : Bool) → eqb branch other ≡ same → all other ≡ cond same (all branch) (all other)
own_at branch other all true e = ap all (sym (eqb-true branch other e))
own_at branch other all false e = refl

pub with_own : (branch : ℕ) (all : Sessions) → all ≡ with_session branch (all branch) all
with_own branch all = λ i other. own_at branch other all (eqb branch other) refl i
