use Rattle.std.proofs.Common.{◌≡◌, false, take}
use Rattle.std.specs.Prelude.{◌||◌}
use Rattle.std.specs.List.{list_any}
use Rattle.audit_areas.specs.Areas.{is_other}
use Rattle.audit_topology.specs.Networks.{leads_elsewhere}
use Rattle.audit_topology.proofs.in_use.some_shows_use.Given as goal

-- none of the ends so far
abbrev pub invariant-loop-router : goal.invariant-loop-router
invariant-loop-router g l =
    list_any (λ router. list_any (is_other router) l.ends || leads_elsewhere l.areas l.network router) (take l.router-index l.ends) ≡ false
