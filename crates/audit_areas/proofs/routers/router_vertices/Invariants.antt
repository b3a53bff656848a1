use Rattle.std.proofs.Common.{◌≡◌, take}
use Rattle.std.specs.List.{filter_map}
use Rattle.audit_areas.specs.Areas.{router_of}
use Rattle.audit_areas.proofs.routers.router_vertices.Given as goal

-- the routers of the vertices so far
abbrev pub invariant-loop-number : goal.invariant-loop-number
invariant-loop-number g l = l.routers.items ≡ filter_map router_of (take l.number l.graph.vertices)
