use Rattle.std.proofs.Common.{◌≡◌, take}
use Rattle.std.specs.Prelude.{flat_map}
use Rattle.lsdb.specs.Lists.{areas_of}
use Rattle.lsdb.specs.Slots.{lists_of}
use Rattle.routing_table.proofs.AreaLsaLemmas.{lsas_among}
use Rattle.lost_routes.specs.Announcers.{by_area_lsa}
use Rattle.lost_routes.proofs.announcers.Announcers.of.Given as goal

-- the pairs of the areas so far
abbrev pub invariant-loop-i : goal.invariant-loop-i
invariant-loop-i g l =
    l.pairs.items ≡ flat_map (by_area_lsa l.baseline) (lsas_among (lists_of l.database) (take l.i (areas_of (lists_of l.database))))
