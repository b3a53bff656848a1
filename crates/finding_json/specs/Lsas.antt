-- The JSON of what names an LSA (RFC 2328, 12.1).
use Rattle.std.specs.Prelude.{[], ◌∷◌, Option, None, Some, codes}
use Rattle.json.specs.Json.{Json}
use Rattle.lsa_codec.specs.Prefix.{Net}
use Rattle.lsa_names.specs.declared.lsa_name.LsaName.{LsaName}
use Rattle.study_json.specs.Fields.{Fields, object_of}
use Rattle.study_json.specs.Leaves.{address_json, area_json, number_json, option_json, prefix_json, router_json}

-- the prefix, of an LSA that has one: a network-LSA, a summary-LSA of type 3 or an AS-external-LSA
abbrev pub prefix_fields : Option Net → Fields
prefix_fields None = []
prefix_fields (Some net) = (codes "prefix", prefix_json net) ∷ []

abbrev pub lsa_json : LsaName → Json
lsa_json name =
    object_of
    ((codes "area", option_json area_json name.area) ∷ (codes "type", number_json name.key.kind) ∷ (codes "id", address_json name.key.id)
    ∷ (codes "router", router_json name.key.adv) ∷ prefix_fields name.net)
