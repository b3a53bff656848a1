use Rattle.std.proofs.Common.{◌≡◌, take}
use Rattle.std.specs.List.{flat_map}
use Rattle.lsdb.specs.Slots.{lists_of}
use Rattle.routing_table.specs.AreasTrees.{AreOfDatabase}
use Rattle.audit_routes.specs.Compatibility.{dependent_places}
use Rattle.audit_routes.specs.Ways.{ways_of}
use Rattle.audit_routes.proofs.rfc1583.all_places.Given as goal

-- the places of the routers so far
abbrev pub invariant-loop-router : goal.invariant-loop-router
invariant-loop-router g l = record {
  places : l.places.items
      ≡ flat_map (λ router. dependent_places (lists_of l.database) (ways_of (lists_of l.database) router)) (take l.router-index l.router-items);
  trees : AreOfDatabase (lists_of l.database) l.trees;
}
