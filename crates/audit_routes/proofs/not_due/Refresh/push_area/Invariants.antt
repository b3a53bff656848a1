use Rattle.std.proofs.Common.{◌≡◌, ◌++◌, take}
use Rattle.std.specs.List.{filter_map}
use Rattle.lsdb.specs.declared.section.Section.TheVariants.{Area}
use Rattle.lsdb.specs.Lists.{lsas_of}
use Rattle.audit_routes.specs.InOrder.{found_at}
use Rattle.audit_routes.specs.NotDue.{not_due_place}
use Rattle.audit_routes.proofs.not_due.Refresh.push_area.Given as goal

-- the places of the keys so far were added
abbrev pub invariant-loop-key : goal.invariant-loop-key
invariant-loop-key g l =
    l.places.items ≡ l.initial.places.items
    ++ filter_map (found_at (not_due_place l.self l.metrics l.area) (lsas_of (Area l.area) l.self.db)) (take l.key-index l.key-items)
