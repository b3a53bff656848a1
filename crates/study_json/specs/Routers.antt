-- The JSON of routers, as `routers` answers it.
use Rattle.std.specs.Prelude.{ℕ, Bool, Option, if◌then◌else◌, List, [], ◌∷◌, ◌++◌, codes}
use Rattle.json.specs.Json.{Json, string, array}
use Rattle.json.specs.Value.{items_of}
use Rattle.link_report.specs.Routers.{RouterValue}
use Rattle.study_json.specs.Fields.{Fields, object_of}
use Rattle.study_json.specs.Leaves.{area_json, array_json, number_json, option_json, router_json}

-- `abr` for an area border router, `asbr` for an AS boundary router
abbrev pub roles_json : Bool → Bool → Json
roles_json is_abr is_asbr =
    array (items_of ((if is_abr then string (codes "abr") ∷ [] else []) ++ (if is_asbr then string (codes "asbr") ∷ [] else [])))

-- how many links there are
abbrev pub link_counts : RouterValue → Fields
link_counts v =
    (codes "links", number_json v.links) ∷ (codes "transit", number_json v.transit) ∷ (codes "stubs", number_json v.stubs) ∷ []

-- a router, and its name, if it has one
abbrev pub router_line_json : Option (List ℕ) → RouterValue → Json
router_line_json name v =
    object_of
    ((codes "router", router_json v.router) ∷ (codes "name", option_json string name) ∷ (codes "areas", array_json area_json v.areas)
    ∷ (codes "roles", roles_json v.is_abr v.is_asbr) ∷ link_counts v)
