use Rattle.std.proofs.Common.{◌≡◌, Bool, false, take}
use Rattle.std.specs.List.{list_any}
use Rattle.lsa_codec.specs.declared.address.AreaId.{AreaId}
use Rattle.lsdb.specs.Lists.{AreaHead, areas_of}
use Rattle.lsdb.specs.Slots.{lists_of}
use Rattle.external_routes.proofs.areas.any_area.Given as goal

-- no area so far passes
abbrev pub invariant-loop-i : goal.invariant-loop-i
invariant-loop-i g l =
    (passes : AreaHead → Bool)
    → ((area : AreaId) (is_stub answer : Bool) → goal.F-post g l.test area is_stub answer → answer ≡ passes (record { id = area.0; is_stub = is_stub }))
    → list_any passes (take l.i (areas_of (lists_of l.database))) ≡ false
