-- The JSON of transit networks, as `networks` answers it.
use Rattle.std.specs.Prelude.{[], ◌∷◌, codes}
use Rattle.json.specs.Json.{Json}
use Rattle.link_report.specs.Networks.{NetworkValue}
use Rattle.study_json.specs.Fields.{Fields, object_of}
use Rattle.study_json.specs.Leaves.{address_json, area_json, array_json, prefix_json, router_json}

-- the routers that are listed: those that have a link to the network, and the others
abbrev pub member_fields : NetworkValue → Fields
member_fields v = (codes "members", array_json router_json v.members) ∷ (codes "one_way", array_json router_json v.one_way) ∷ []

abbrev pub network_json : NetworkValue → Json
network_json v =
    object_of
    ((codes "area", area_json v.area) ∷ (codes "prefix", prefix_json v.place.net) ∷ (codes "address", address_json v.place.address)
    ∷ (codes "router", router_json v.router) ∷ member_fields v)
