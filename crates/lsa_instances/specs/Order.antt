-- Flooding scopes, and the order of places.
use Rattle.std.specs.Prelude.{ℕ, Bool, Option, Some, None, ◌==◌, ◌||◌, if◌then◌else◌}
use Rattle.std.specs.Ordering.{nat_cmp, ordering_then}
use Rattle.std.specs.declared.cmp.Ordering.{Ordering}
use Rattle.lsa_codec.specs.declared.address.AreaId.{AreaId}
use Rattle.lsa_codec.specs.Key.{key_of}
use Rattle.lsa_codec.specs.LsTypes.{external_lsa, as_opaque_lsa}
use Rattle.lsa_codec.specs.Order.{key_cmp}
use Rattle.lsa_instances.specs.declared.place.Place.{Place}
use Rattle.lsa_instances.specs.declared.place.Scope.{Scope}
use Rattle.lsa_instances.specs.declared.place.Scope.TheVariants.{Area, AsWide}
use Rattle.lsa_instances.specs.declared.observation.Observation.{Observation}

-- areas before the whole AS
abbrev pub scope_number : Scope → ℕ
scope_number (Area id) = 0
scope_number AsWide = 1

abbrev pub area_of : Scope → ℕ
area_of (Area id) = id.0
area_of AsWide = 0

-- LSAs of these types have AS scope: AS-external-LSAs and opaque LSAs of type 11 (RFC 2328, 3.6; RFC 5250, 2)
abbrev pub has_as_scope : ℕ → Bool
has_as_scope kind = (kind == external_lsa) || (kind == as_opaque_lsa)

-- the scope of an LSA of this type that is flooded in an area: the AS for types of AS scope, else the area
abbrev pub scope_in : AreaId → ℕ → Scope
scope_in area kind = if has_as_scope kind then AsWide else Area area

abbrev pub area_scope : Option AreaId → Option Scope
area_scope None = None
area_scope (Some id) = Some (Area id)

-- the scope of an LSA of this type that is reported in an area, or outside of all areas
abbrev pub scope_of_report : ℕ → Option AreaId → Option Scope
scope_of_report kind area = if has_as_scope kind then Some AsWide else area_scope area

-- areas by their IDs, and after them the whole AS
abbrev pub scope_cmp : Scope → Scope → Ordering
scope_cmp a b = ordering_then (nat_cmp (scope_number a) (scope_number b)) (nat_cmp (area_of a) (area_of b))

-- by scope, then by key
abbrev pub place_cmp : Place → Place → Ordering
place_cmp a b = ordering_then (scope_cmp a.scope b.scope) (key_cmp a.key b.key)

abbrev pub place_of : {A : Type 0} → Observation A → Place
place_of x = record { scope = x.scope; key = key_of x.lsa }
