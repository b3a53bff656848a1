-- What a document contains that FRR prints of a database.
use Rattle.std.specs.Prelude.{ℕ, codes, Bool, false, ◌||◌, ◌==◌, if◌then◌else◌, List, [], ◌∷◌, ◌++◌, Option, Some, None, option_map}
use Rattle.std.specs.Option.{is_some}
use Rattle.json.specs.Json.{Json, Items, no_items, item, Members, no_members, member}
use Rattle.json.specs.Find.{get, as_array, as_object}
use Rattle.lsa_codec.specs.declared.address.AreaId.{AreaId}
use Rattle.frr_text.specs.declared.header.Header.{Header}
use Rattle.frr_text.specs.declared.ls_type.LsType.{LsType}
use Rattle.frr_text.specs.declared.ls_type.LsType.TheVariants as types
use Rattle.findings.specs.declared.feature.Feature.TheVariants as features
use Rattle.findings.specs.declared.part.Part.{Part}
use Rattle.findings.specs.declared.part.Part.TheVariants as contents
use Rattle.text_words.specs.Addresses.{address_of}
use Rattle.frr_text.specs.ParsedParts.{rebuilt}
use Rattle.frr_text.specs.Words.{Word}
use Rattle.frr_json.specs.Members.{members_at}
use Rattle.frr_json.specs.Header.{header_in}
use Rattle.frr_json.specs.Bodies.{body_in}
use Rattle.frr_json.specs.Opaque.{parsed_opaque}
use Rattle.lsa_codec.specs.LsTypes.{as_opaque_lsa}
use Rattle.lsa_instances.specs.LsTypes.{area_opaque_lsa, link_opaque_lsa}
use Rattle.frr_json.specs.declared.table.Table.{Table}
use Rattle.frr_json.specs.declared.table.Table.TheVariants as tables
use Rattle.frr_json.specs.Tables.{is_as_wide, table_name}

-- the area of this name: its Area ID in dotted decimal
abbrev pub area_named : List ℕ → Option AreaId
area_named name = option_map (λ address. record { 0 = address }) (address_of name)

module _ {A : Type 0} where
  abbrev pub parsed_header : Option AreaId → Json → Option Header → Part A
  parsed_header area json None = contents.Unreadable
  parsed_header area json (Some header) = rebuilt area header (body_in header json)

  -- the LSA of this type in an object, in this area, or why it cannot be used
  abbrev pub parsed_lsa : LsType → Option AreaId → Json → Part A
  parsed_lsa ls_type area json = parsed_header area json (header_in ls_type json)

  -- an object in a database: LSAs of type 7 are counted alone
  abbrev pub parsed_item : Table → Option AreaId → Json → Part A
  parsed_item (tables.Read ls_type) area json = parsed_lsa ls_type area json
  parsed_item tables.Nssa area json = contents.NotRead features.Nssa
  parsed_item tables.LinkOpaque area json = parsed_opaque link_opaque_lsa area json
  parsed_item tables.AreaOpaque area json = parsed_opaque area_opaque_lsa area json
  parsed_item tables.AsOpaque area json = parsed_opaque as_opaque_lsa area json

  -- the LSAs of an area, one after another
  unfoldable pub lsas_in : Table → Option AreaId → Items → List (Part A)
  lsas_in table area no_items = []
  lsas_in table area (item json items) = parsed_item table area json ∷ lsas_in table area items

  abbrev pub parsed_items : Table → Option AreaId → Option Items → List (Part A)
  parsed_items table area None = contents.Unreadable ∷ []
  parsed_items table area (Some items) = lsas_in table area items

  -- the LSAs of an area in an array
  abbrev pub parsed_array : Table → Option AreaId → Json → List (Part A)
  parsed_array table area json = parsed_items table area (as_array json)

  -- the LSAs of areas, in the order of the text: each area is a member, named by its Area ID
  unfoldable pub areas_in : Table → Members → List (Part A)
  areas_in table no_members = []
  areas_in table (member name json members) = parsed_array table (area_named name) json ++ areas_in table members

  abbrev pub parsed_members : Table → Option Members → List (Part A)
  parsed_members table None = contents.Unreadable ∷ []
  parsed_members table (Some members) = areas_in table members

  abbrev pub parsed_areas : Table → Json → List (Part A)
  parsed_areas table json = parsed_members table (members_at (codes "areas") json)

  -- a database, in which LSAs of AS scope stand in no area
  abbrev pub parsed_database : Table → Json → List (Part A)
  parsed_database table json = if is_as_wide table then parsed_array table None json else parsed_areas table json

  abbrev pub found_parsed : Table → Option Json → List (Part A)
  found_parsed table None = []
  found_parsed table (Some database) = parsed_database table database

  -- the LSAs of this database of an object
  abbrev pub parsed_of : Table → Json → List (Part A)
  parsed_of table json = found_parsed table (get (table_name table) json)

  -- the LSAs of all databases of an object, in the order of LS types
  unfoldable pub tables_in : Json → List (Part A)
  tables_in json =
      parsed_of (tables.Read types.Router) json ++ parsed_of (tables.Read types.Network) json ++ parsed_of (tables.Read types.Summary) json
      ++ parsed_of (tables.Read types.AsbrSummary) json ++ parsed_of (tables.Read types.External) json ++ parsed_of tables.Nssa json
      ++ parsed_of tables.LinkOpaque json ++ parsed_of tables.AreaOpaque json ++ parsed_of tables.AsOpaque json

-- the object has this database
abbrev pub has_table : Table → Json → Bool
has_table table json = is_some (get (table_name table) json)

-- the object has a database
abbrev pub has_tables : Json → Bool
has_tables json =
    has_table (tables.Read types.Router) json || has_table (tables.Read types.Network) json || has_table (tables.Read types.Summary) json
    || has_table (tables.Read types.AsbrSummary) json || has_table (tables.Read types.External) json || has_table tables.Nssa json
    || has_table tables.LinkOpaque json || has_table tables.AreaOpaque json || has_table tables.AsOpaque json

-- the value of the only member of an object
unfoldable pub only_member : Option Members → Option Json
only_member None = None
only_member (Some no_members) = None
only_member (Some (member name value no_members)) = Some value
only_member (Some (member name value (member second other others))) = None

abbrev pub value_or : Json → Option Json → Json
value_or json None = json
value_or json (Some value) = value

-- what has the databases: the document, or, where it has none, its only member, under which those of a VRF stand
abbrev pub root_of : Json → Json
root_of json = if has_tables json then json else value_or json (only_member (as_object json))

-- the document has a database
abbrev pub has_database : Json → Bool
has_database json = has_tables (root_of json)

-- what a document contains
abbrev pub parsed_in : {A : Type 0} → Json → List (Part A)
parsed_in json = tables_in (root_of json)

-- a text that can only be an object: its first word begins with a brace (123)
abbrev pub begins_object : Word → Bool
begins_object [] = false
begins_object (byte ∷ bytes) = byte == 123

abbrev pub is_printed_json : List Word → Bool
is_printed_json [] = false
is_printed_json (word ∷ words) = begins_object word
