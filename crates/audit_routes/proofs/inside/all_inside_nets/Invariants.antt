use Rattle.std.proofs.Common.{◌≡◌, take}
use Rattle.std.specs.List.{flat_map}
use Rattle.lsdb.specs.Slots.{lists_of}
use Rattle.routing_table.specs.AreasTrees.{AreOfDatabase}
use Rattle.audit_routes.specs.Inside.{inside_nets}
use Rattle.audit_routes.proofs.inside.all_inside_nets.Given as goal

-- the prefixes of the routers so far
abbrev pub invariant-loop-router : goal.invariant-loop-router
invariant-loop-router g l = record {
  nets : l.nets.items ≡ flat_map (inside_nets (lists_of l.database)) (take l.router-index l.router-items);
  trees : AreOfDatabase (lists_of l.database) l.trees;
}
