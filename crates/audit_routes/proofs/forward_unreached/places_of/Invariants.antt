use Rattle.std.proofs.Common.{◌≡◌, take}
use Rattle.std.specs.List.{filter_map}
use Rattle.lsdb.specs.declared.section.Section.TheVariants.{AsWide}
use Rattle.lsdb.specs.Lists.{lsas_of}
use Rattle.lsdb.specs.Slots.{lists_of}
use Rattle.audit_routes.specs.ForwardUnreached.{unreached_place}
use Rattle.audit_routes.specs.InOrder.{found_at}
use Rattle.audit_routes.proofs.forward_unreached.places_of.Given as goal

-- the places of the keys so far
abbrev pub invariant-loop-key : goal.invariant-loop-key
invariant-loop-key g l =
    l.places.items ≡ filter_map (found_at (unreached_place l.nets) (lsas_of AsWide (lists_of l.database))) (take l.key-index l.key-items)
