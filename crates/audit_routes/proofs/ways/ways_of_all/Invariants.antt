use Rattle.std.proofs.Common.{◌≡◌, map, take}
use Rattle.lsdb.specs.Slots.{lists_of}
use Rattle.routing_table.specs.AreasTrees.{AreOfDatabase}
use Rattle.audit_routes.specs.Ways.{ways_of}
use Rattle.audit_routes.proofs.ways.ways_of_all.Given as goal

-- those of the routers so far
abbrev pub invariant-loop-router : goal.invariant-loop-router
invariant-loop-router g l = record {
  ways : l.ways.items ≡ map (ways_of (lists_of l.database)) (take l.router-index l.routers);
  trees : AreOfDatabase (lists_of l.database) l.trees;
}
