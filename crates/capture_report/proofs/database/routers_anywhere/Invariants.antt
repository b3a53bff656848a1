use Rattle.std.proofs.Common.{◌≡◌, take}
use Rattle.std.specs.List.{filter_map, flat_map}
use Rattle.lsdb.specs.Lists.{lsas_of}
use Rattle.lsdb.specs.Slots.{lists_of}
use Rattle.lsdb.specs.declared.section.Section.TheVariants.{Area}
use Rattle.capture_report.specs.Naming.{router_described}
use Rattle.capture_report.proofs.database.routers_anywhere.Given as goal

abbrev pub invariant-loop-area : goal.invariant-loop-area
invariant-loop-area g l = l.found.items ≡ flat_map (λ area. filter_map router_described (lsas_of (Area area) (lists_of l.database))) (take l.area-index l.area-items)
