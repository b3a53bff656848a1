use Rattle.std.proofs.Common.{◌≡◌, ◌++◌}
use Rattle.std.specs.List.{filter_map}
use Rattle.area_graph.specs.steps.Naming.{listed}
use Rattle.area_graph.proofs.naming.add_listed.Given as goal

abbrev pub invariant-loop-router : goal.invariant-loop-router
invariant-loop-router g l = l.row.items ≡ l.initial.row.items ++ filter_map (listed l.vertices.keys) l.yielded
