use Rattle.std.proofs.Common.{◌≡◌, ◌++◌, take, map}
use Rattle.lsa_instances.specs.declared.place.Scope.TheVariants.{Area}
use Rattle.lsdb_merge.proofs.scopes.put_areas.Given as goal

abbrev pub invariant-loop-area : goal.invariant-loop-area
invariant-loop-area g l = l.reported.items ≡ l.fn.reported.items ++ map (λ area. Area area.id) (take l.area-index l.areas)
