use Rattle.std.proofs.Common.{◌≡◌, take}
use Rattle.std.specs.List.{flat_map}
use Rattle.lsdb.specs.Lists.{areas_of}
use Rattle.lsdb.specs.Slots.{lists_of}
use Rattle.route_report.specs.LinksOver.{id_of, sought_in}
use Rattle.route_report.proofs.found.sought.Given as goal

-- those of the areas so far
abbrev pub invariant-loop-i : goal.invariant-loop-i
invariant-loop-i g l =
    l.found.items ≡ flat_map (λ area. sought_in (lists_of l.database) l.what (id_of area)) (take l.i (areas_of (lists_of l.database)))
