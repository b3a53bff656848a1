-- How a database differs from the headers of a list (RFC 2328, 13.1).
use Rattle.std.specs.Prelude.{ℕ, List, Option, Some, None, option_map, if◌then◌else◌}
use Rattle.std.specs.List.{filter_map, find}
use Rattle.std.specs.declared.cmp.Ordering.{Ordering}
use Rattle.std.specs.declared.cmp.Ordering.TheVariants as orders
use Rattle.lsa_codec.specs.Key.{is_at_max_age}
use Rattle.lsa_instances.specs.declared.header.Header.{Header}
use Rattle.lsa_instances.specs.declared.place.Place.{Place}
use Rattle.lsa_instances.specs.declared.place.Scope.{Scope}
use Rattle.lsa_instances.specs.declared.place.Scope.TheVariants as scopes
use Rattle.lsa_instances.specs.Headers as headers
use Rattle.lsa_instances.specs.Instance.{instance_id_cmp, instance_id_of}
use Rattle.lsdb.specs.declared.section.Section.{Section}
use Rattle.lsdb.specs.declared.section.Section.TheVariants as sections
use Rattle.lsdb.specs.Lists.{Lists, has_key, lsas_of}
use Rattle.lsdb_listing.specs.declared.difference.Change.{Change}
use Rattle.lsdb_listing.specs.declared.difference.Change.TheVariants as changes
use Rattle.lsdb_listing.specs.declared.difference.Difference.{Difference}

-- ---- what a database has

-- the section of a scope
abbrev pub scope_section : Scope → Section
scope_section (scopes.Area id) = sections.Area id
scope_section scopes.AsWide = sections.AsWide

-- the LSA with that key in the section of that scope, if there is one
abbrev pub lsa_of : Lists → Place → Option (List ℕ)
lsa_of db place = find (has_key place.key) (lsas_of (scope_section place.scope) db)

-- ---- differences

-- the change where the database has no usable instance: an LSA that was flushed in the list is not missing (RFC 2328,
-- 14.1)
abbrev pub absent : Header → Option Change
absent header = if headers.is_at_max_age header then None else Some changes.Missing

-- the change where both have the same instance: at MaxAge no router uses it (RFC 2328, 12.1.1)
abbrev pub beside_same : Header → List ℕ → Option Change
beside_same header lsa = if is_at_max_age lsa then absent header else None

abbrev pub change_by : Header → List ℕ → Ordering → Option Change
change_by header lsa orders.Less = Some changes.Older
change_by header lsa orders.Equal = beside_same header lsa
change_by header lsa orders.Greater = Some changes.Newer

-- how a header of the list differs from the LSA of the database, if there is one
abbrev pub change_of : Header → Option (List ℕ) → Option Change
change_of header None = absent header
change_of header (Some lsa) = change_by header lsa (instance_id_cmp header.instance (instance_id_of lsa))

abbrev pub difference_of : Lists → Header → Option Difference
difference_of db header =
    option_map (λ change. record { change = change; place = header.place }) (change_of header (lsa_of db header.place))

-- in the order of the list
abbrev pub differences : Lists → List Header → List Difference
differences db headers = filter_map (difference_of db) headers
