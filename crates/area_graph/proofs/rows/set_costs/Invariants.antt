use Rattle.std.proofs.Common.{◌≡◌, ◌++◌, drop, map, take}
use Rattle.area_graph.specs.steps.CostRows.{with_cost}
use Rattle.area_graph.proofs.rows.set_costs.Given as goal

-- the edges that were passed have their costs
abbrev pub invariant-loop-index : goal.invariant-loop-index
invariant-loop-index l = l.row ≡ map (with_cost l.fn.to l.fn.link_data l.fn.cost) (take l.index l.fn.row) ++ drop l.index l.fn.row
