use Rattle.std.proofs.Common.{◌≡◌, take, map}
use Rattle.area_graph.specs.steps.Naming.{naming}
use Rattle.area_graph.proofs.naming.naming_rows.Given as goal

abbrev pub invariant-loop-lsa : goal.invariant-loop-lsa
invariant-loop-lsa g l = l.rows ≡ map (naming l.vertices.keys) (take l.lsa-index l.lsas)
