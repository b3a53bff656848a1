use Rattle.std.proofs.Common.{◌≡◌, take}
use Rattle.lsdb.specs.Lists.{areas_of}
use Rattle.lsdb.specs.Slots.{lists_of}
use Rattle.routing_table.specs.AreasTrees.{AreOfDatabase, trees_in}
use Rattle.area_routes.specs.Attached.{is_attached}
use Rattle.routing_table.specs.KeptTrees.{GainsOnly}
use Rattle.routing_table.specs.Counting.{counted_by}
use Rattle.routing_table.specs.Tables.{results_in}
use Rattle.routing_table.proofs.TableLemmas.{attached_among}
use Rattle.routing_table.proofs.TreeCounts.{IsGrown, lacked}
use Rattle.routing_table.proofs.kept_trees.KeptTrees.results_of.Given as goal

-- the results are those of the areas so far to which the router is attached, and its trees in them are kept, and no others came
abbrev pub invariant-loop-i : goal.invariant-loop-i
invariant-loop-i g l = record {
  results : l.results.items ≡ results_in (lists_of l.database) l.router
      (attached_among (lists_of l.database) l.router (take l.i (areas_of (lists_of l.database))));
  graphs : AreOfDatabase (lists_of l.database) l.self;
  grown : IsGrown (lists_of l.database) l.router l.i (trees_in l.initial.self) (trees_in l.self);
  only : GainsOnly (λ area. is_attached (lists_of l.database) area l.router) l.router (trees_in l.initial.self) (trees_in l.self);
  meter : l.meter ≡ counted_by (lacked (lists_of l.database) l.router (trees_in l.initial.self) l.i) l.initial.meter;
}
