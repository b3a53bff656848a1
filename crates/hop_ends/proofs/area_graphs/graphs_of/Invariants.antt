use Rattle.lsdb.specs.Slots.{lists_of}
use Rattle.hop_ends.proofs.FirstGraphs.{AreFirst}
use Rattle.hop_ends.proofs.area_graphs.graphs_of.Given as goal

-- the graphs of the areas so far
abbrev pub invariant-loop-i : goal.invariant-loop-i
invariant-loop-i g l = AreFirst (lists_of l.database) l.i l.graphs.items
