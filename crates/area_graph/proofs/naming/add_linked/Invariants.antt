use Rattle.std.proofs.Common.{◌≡◌, ◌++◌}
use Rattle.std.specs.List.{filter_map}
use Rattle.area_graph.specs.steps.Naming.{linked}
use Rattle.area_graph.proofs.naming.add_linked.Given as goal

abbrev pub invariant-loop-link : goal.invariant-loop-link
invariant-loop-link g l = l.row.items ≡ l.initial.row.items ++ filter_map (linked l.vertices.keys) l.yielded
