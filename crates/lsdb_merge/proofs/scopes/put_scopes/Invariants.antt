use Rattle.std.proofs.Common.{◌≡◌, ◌++◌, take, map}
use Rattle.lsdb_merge.proofs.scopes.put_scopes.Given as goal

abbrev pub invariant-loop-observation : goal.invariant-loop-observation
invariant-loop-observation g l = l.reported.items ≡ l.fn.reported.items ++ map (λ x. x.scope) (take l.observation-index l.newest)
