-- The places of the LSAs of a database that pass a test: by area, those of AS scope last; by LS type, Link State ID and Advertising
-- Router (RFC 2328, 12.1).
use Rattle.std.specs.Prelude.{ℕ, Bool, List, [], ◌∷◌, ◌++◌, filter, map, Option, None, Some}
use Rattle.std.specs.List.{flat_map}
use Rattle.std.specs.Option.{option_cmp}
use Rattle.std.specs.Ordering.{ordering_then}
use Rattle.std.specs.declared.cmp.Ordering.{Ordering}
use Rattle.lsa_codec.specs.declared.address.AreaId.{AreaId}
use Rattle.lsa_codec.specs.Order.{area_cmp, key_cmp, prefix_cmp}
use Rattle.lsdb.specs.declared.section.Section.{Section}
use Rattle.lsdb.specs.declared.section.Section.TheVariants.{Area, AsWide}
use Rattle.lsdb.specs.Lists.{AreaHead, Lists, areas_of, lsas_of}
use Rattle.area_graph.specs.Rising.{rising}
use Rattle.area_routes.specs.Attached.{id_of}
use Rattle.lsa_names.specs.declared.lsa_name.LsaName.{LsaName}
use Rattle.lsa_names.specs.LsaNames.{lsa_name}
use Rattle.audit_places.specs.Places.{PlaceValue, at_lsa}
use Rattle.audit_lsas.specs.declared.scope.AreaScope.{AreaScope}

-- ---- areas, and the AS

abbrev pub some_scope : AreaHead → Option AreaScope
some_scope area = Some (record { id = id_of area; is_stub = area.is_stub })

-- the areas in rising order of their IDs, and at the end the AS, which is no area
abbrev pub scopes : Lists → List (Option AreaScope)
scopes db = map some_scope (areas_of db) ++ None ∷ []

abbrev pub section_in : Option AreaScope → Section
section_in None = AsWide
section_in (Some area) = Area area.id

abbrev pub area_in : Option AreaScope → Option AreaId
area_in None = None
area_in (Some area) = Some area.id

-- ---- LSAs that pass a test

-- a test of the LSAs of an area, or of AS scope
abbrev pub LsaTest : Type 0
LsaTest = Option AreaScope → List ℕ → Bool

-- how LSAs are tested by the things of a type
abbrev pub TestBy : Type 0 → Type 0
TestBy X = X → LsaTest

-- by area, LS type, Link State ID and Advertising Router
abbrev pub name_cmp : LsaName → LsaName → Ordering
name_cmp a b = ordering_then (option_cmp area_cmp a.area b.area) (ordering_then (key_cmp a.key b.key) (option_cmp prefix_cmp a.net b.net))

-- the names of those of some LSAs of an area, or of AS scope, that pass a test
abbrev pub names_of : LsaTest → Option AreaScope → List (List ℕ) → List LsaName
names_of test scope lsas = map (lsa_name (area_in scope)) (filter (test scope) lsas)

-- the names of all that pass it, in order
abbrev pub names_in : LsaTest → Lists → Option AreaScope → List LsaName
names_in test db scope = rising name_cmp (names_of test scope (lsas_of (section_in scope) db))

-- the places of all LSAs that pass a test
abbrev pub lsa_places : LsaTest → Lists → List PlaceValue
lsa_places test db = map at_lsa (flat_map (names_in test db) (scopes db))
