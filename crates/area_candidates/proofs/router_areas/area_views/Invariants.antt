use Rattle.std.proofs.Common.{◌≡◌, map, take}
use Rattle.lsdb.specs.Lists.{areas_of}
use Rattle.lsdb.specs.Slots.{lists_of}
use Rattle.routing_table.proofs.TableLemmas.{attached_among}
use Rattle.area_candidates.specs.Views.{area_view}
use Rattle.area_candidates.proofs.router_areas.area_views.Given as goal

-- the views of the areas so far that the router is attached to
abbrev pub invariant-loop-i : goal.invariant-loop-i
invariant-loop-i g l =
    l.views.items ≡ map (area_view (lists_of l.database) l.router)
    (attached_among (lists_of l.database) l.router (take l.i (areas_of (lists_of l.database))))
