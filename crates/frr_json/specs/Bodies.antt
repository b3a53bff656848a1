-- What follows an LSA's header (RFC 2328, A.4.2 to A.4.5) in the object that FRR prints of it, and its bytes.
use Rattle.std.specs.Prelude.{ℕ, codes, option_map, Bool, true, false, if◌then◌else◌, List, [], ◌∷◌, ◌++◌, Option, Some, None}
use Rattle.std.specs.Int.{w16, w32, to_be_bytes}
use Rattle.std.specs.Str.{bytes_eq}
use Rattle.json.specs.Json.{Json, Members, no_members, member}
use Rattle.lsa_codec.specs.Prefix.{mask_of_len}
use Rattle.lsa_codec.specs.Views.{ls_infinity}
use Rattle.frr_text.specs.declared.external.External.{External}
use Rattle.frr_text.specs.declared.header.Header.{Header}
use Rattle.frr_text.specs.declared.ls_type.LsType.{LsType}
use Rattle.frr_text.specs.declared.ls_type.LsType.TheVariants as types
use Rattle.frr_text.specs.declared.router.Link.{Link}
use Rattle.frr_text.specs.declared.router.LinkType.{LinkType}
use Rattle.frr_text.specs.declared.router.LinkType.TheVariants as links
use Rattle.frr_text.specs.declared.summary.Summary.{Summary}
use Rattle.frr_text.specs.Bodies.{link_bytes, summary_bytes, external_bytes}
use Rattle.frr_text.specs.Rules.{◌>>=◌}
use Rattle.frr_json.specs.Members.{text_at, number_at, address_at, members_at}

-- the bytes of each member, one after another, in the order of the text
unfoldable pub bytes_of_each : (Json → Option (List ℕ)) → Members → Option (List ℕ)
bytes_of_each parsed no_members = Some []
bytes_of_each parsed (member name json members) = do
  first ← parsed json
  others ← bytes_of_each parsed members
  Some (first ++ others)

-- ---- router-LSAs (A.4.2)

abbrev pub link_type_named : List ℕ → Option LinkType
link_type_named name =
    if bytes_eq name (codes "another Router (point-to-point)") then Some links.PointToPoint else
    if bytes_eq name (codes "a Transit Network") then Some links.Transit else
    if bytes_eq name (codes "Stub Network") then Some links.Stub else
    if bytes_eq name (codes "a Virtual Link") then Some links.Virtual else None

-- the name of the Link ID
abbrev pub id_name : LinkType → List ℕ
id_name links.PointToPoint = codes "neighborRouterId"
id_name links.Transit = codes "designatedRouterAddress"
id_name links.Stub = codes "networkAddress"
id_name links.Virtual = codes "neighborRouterId"

-- the name of the Link Data
abbrev pub data_name : LinkType → List ℕ
data_name links.PointToPoint = codes "routerInterfaceAddress"
data_name links.Transit = codes "routerInterfaceAddress"
data_name links.Stub = codes "networkMask"
data_name links.Virtual = codes "routerInterfaceAddress"

unfoldable pub link_in : Json → Option Link
link_in json = do
  name ← text_at (codes "linkType") json
  link_type ← link_type_named name
  id ← address_at (id_name link_type) json
  link_data ← address_at (data_name link_type) json
  metric ← number_at 0xffff (codes "tos0Metric") json
  Some (record { link_type = link_type; id = id; link_data = link_data; metric = metric })

abbrev pub link_bytes_in : Json → Option (List ℕ)
link_bytes_in json = option_map link_bytes (link_in json)

-- the bits V, E and B, a byte 0, the number of links, and the links
unfoldable pub router_in : Option ℕ → Json → Option (List ℕ)
router_in flags json = do
  bits ← flags
  count ← number_at 0xffff (codes "numOfLinks") json
  members ← members_at (codes "routerLinks") json
  option_map (λ found. (bits ∷ 0 ∷ to_be_bytes w16 count) ++ found) (bytes_of_each link_bytes_in members)

-- ---- network-LSAs (A.4.3)

abbrev pub attached_bytes_in : Json → Option (List ℕ)
attached_bytes_in json = option_map (to_be_bytes w32) (address_at (codes "attachedRouterId") json)

-- the mask, and the attached routers, whose name FRR spells so
unfoldable pub network_in : Json → Option (List ℕ)
network_in json = do
  len ← number_at 32 (codes "networkMask") json
  members ← members_at (codes "attchedRouters") json
  option_map (λ found. to_be_bytes w32 (mask_of_len len) ++ found) (bytes_of_each attached_bytes_in members)

-- ---- summary-LSAs (A.4.4)

-- the length of the mask, and the metric for TOS 0
unfoldable pub summary_in : Json → Option Summary
summary_in json = do
  len ← number_at 32 (codes "networkMask") json
  metric ← number_at ls_infinity (codes "tos0Metric") json
  Some (record { len = len; metric = metric })

-- ---- AS-external-LSAs (A.4.5)

abbrev pub is_type2_named : List ℕ → Option Bool
is_type2_named name =
    if bytes_eq name (codes "E2 (Larger than any link state path)") then Some true else
    if bytes_eq name (codes "E1") then Some false else None

-- the length of the mask, the type of the metric, the metric for TOS 0, the forwarding address and the external route tag
unfoldable pub external_in : Json → Option External
external_in json = do
  len ← number_at 32 (codes "networkMask") json
  name ← text_at (codes "metricType") json
  is_type2 ← is_type2_named name
  metric ← number_at ls_infinity (codes "metric") json
  forward ← address_at (codes "forwardAddress") json
  tag ← number_at 0xffffffff (codes "externalRouteTag") json
  Some (record { len = len; is_type2 = is_type2; metric = metric; forward = forward; tag = tag })

-- ---- of any type

abbrev pub body_as : LsType → Option ℕ → Json → Option (List ℕ)
body_as types.Router flags json = router_in flags json
body_as types.Network flags json = network_in json
body_as types.Summary flags json = option_map summary_bytes (summary_in json)
body_as types.AsbrSummary flags json = option_map summary_bytes (summary_in json)
body_as types.External flags json = option_map external_bytes (external_in json)

-- the bytes after this header, from the object of the LSA
abbrev pub body_in : Header → Json → Option (List ℕ)
body_in header json = body_as header.name.ls_type header.flags json
