-- The JSON of links, as `links` answers it.
use Rattle.std.specs.Prelude.{[], ◌∷◌, ◌++◌, codes}
use Rattle.json.specs.Json.{Json, string}
use Rattle.lsa_codec.specs.declared.link.Link.{Link}
use Rattle.lsa_codec.specs.declared.link.LinkKind.{LinkKind}
use Rattle.lsa_codec.specs.declared.link.LinkKind.TheVariants.{PointToPoint, Transit, Stub, Virtual, Other}
use Rattle.lsa_codec.specs.Links.{stub_net}
use Rattle.link_report.specs.declared.link_side.InterfaceStub.{InterfaceStub}
use Rattle.link_report.specs.Links.{LinkValue}
use Rattle.link_report.specs.LinkTexts.{kind_text}
use Rattle.study_json.specs.Fields.{Fields, object_of}
use Rattle.study_json.specs.Leaves.{address_json, area_json, array_json, number_json, option_json, prefix_json, router_json}

abbrev pub link_kind_json : LinkKind → Json
link_kind_json kind = string (kind_text kind)

-- the stub link of an interface
abbrev pub stub_json : InterfaceStub → Json
stub_json stub =
    object_of
    ((codes "number", number_json stub.number) ∷ (codes "prefix", option_json prefix_json (stub_net stub.link))
    ∷ (codes "cost", number_json stub.link.metric) ∷ [])

-- what a link leads to, a Router ID or an address, and its Link Data
abbrev pub far_fields : Link → Fields
far_fields link = (codes "to", address_json link.id) ∷ (codes "data", address_json link.link_data) ∷ []

-- what stands after the cost of a link to a transit network
abbrev pub transit_fields : LinkValue → Fields
transit_fields v =
    far_fields v.link ++ (codes "back", array_json number_json v.back) ∷ (codes "prefix", option_json prefix_json v.net) ∷ []

-- what stands after the cost, by the kind of the link
abbrev pub rest_by : LinkKind → LinkValue → Fields
rest_by PointToPoint v =
    far_fields v.link
    ++ (codes "back", array_json number_json v.back) ∷ (codes "peers", array_json address_json v.peers)
    ∷ (codes "stub", option_json stub_json v.stub) ∷ []
rest_by Transit v = transit_fields v
rest_by Stub v = (codes "prefix", option_json prefix_json v.net) ∷ (codes "of", option_json number_json v.owner) ∷ []
rest_by Virtual v = far_fields v.link
rest_by (Other code) v = far_fields v.link

abbrev pub link_json : LinkValue → Json
link_json v =
    object_of
    ((codes "router", router_json v.router) ∷ (codes "area", area_json v.area) ∷ (codes "number", number_json v.number)
    ∷ (codes "type", link_kind_json v.link.kind) ∷ (codes "cost", number_json v.link.metric) ∷ rest_by v.link.kind v)
