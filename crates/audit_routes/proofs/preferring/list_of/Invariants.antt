use Rattle.std.proofs.Common.{◌≡◌, take}
use Rattle.lsa_codec.specs.Order.{area_cmp}
use Rattle.area_graph.specs.Rising.{rising}
use Rattle.audit_routes.proofs.preferring.list_of.Given as goal

-- the areas so far
abbrev pub invariant-loop-area : goal.invariant-loop-area
invariant-loop-area g l = l.list ≡ rising area_cmp (take l.area-index l.areas)
