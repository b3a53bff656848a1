-- Which routers and networks LSAs name, and which they describe (RFC 2328, 12.4).
use Rattle.std.specs.Prelude.{ℕ, ◌==◌, ◌||◌, Bool, if◌then◌else◌, List, [], ◌∷◌, map, Option, Some, None}
use Rattle.std.specs.List.{filter_map}
use Rattle.lsa_codec.specs.declared.link.LinkKind.{LinkKind}
use Rattle.lsa_codec.specs.declared.link.LinkKind.TheVariants.{PointToPoint, Transit, Stub, Virtual, Other}
use Rattle.lsa_codec.specs.declared.link.Link.{Link}
use Rattle.lsa_codec.specs.Fields.{kind_of, link_state_id_of, advertising_router_of}
use Rattle.lsa_codec.specs.Key.{is_at_max_age}
use Rattle.lsa_codec.specs.Links.{links_of}
use Rattle.lsa_codec.specs.LsTypes.{router_lsa, network_lsa, summary_lsa, asbr_summary_lsa, external_lsa}
use Rattle.lsa_codec.specs.Views.{attached_of}
use Rattle.capture_report.specs.declared.naming.Node.{Node}
use Rattle.capture_report.specs.declared.naming.Node.TheVariants.{Router, Network}

-- ---- links (A.4.2)

-- the Link ID of a point-to-point link and of a virtual link is the Router ID of the neighbor
abbrev pub router_by : LinkKind → ℕ → Option ℕ
router_by PointToPoint id = Some id
router_by Transit id = None
router_by Stub id = None
router_by Virtual id = Some id
router_by (Other code) id = None

abbrev pub router_of_link : Link → Option ℕ
router_of_link link = router_by link.kind link.id.0

-- the Link ID of a link to a transit network is the address of its Designated Router
abbrev pub network_by : LinkKind → ℕ → Option ℕ
network_by PointToPoint id = None
network_by Transit id = Some id
network_by Stub id = None
network_by Virtual id = None
network_by (Other code) id = None

abbrev pub network_of_link : Link → Option ℕ
network_of_link link = network_by link.kind link.id.0

-- ---- what an LSA names

abbrev pub is_summary : ℕ → Bool
is_summary kind = (kind == summary_lsa) || (kind == asbr_summary_lsa)

-- the routers that a router-LSA's links lead to, those attached to the network of a network-LSA, and the area border
-- router that originated a summary-LSA
abbrev pub reported_routers : List ℕ → List ℕ
reported_routers lsa =
    if kind_of lsa == router_lsa then filter_map router_of_link (links_of lsa) else
    if kind_of lsa == network_lsa then map (λ router. router.0) (attached_of lsa) else
    if is_summary (kind_of lsa) then advertising_router_of lsa ∷ [] else []

-- an LSA at MaxAge names nothing (12.1.1)
abbrev pub routers_named : List ℕ → List ℕ
routers_named lsa = if is_at_max_age lsa then [] else reported_routers lsa

-- the transit networks that a router-LSA's links lead to
abbrev pub reported_networks : List ℕ → List ℕ
reported_networks lsa = if kind_of lsa == router_lsa then filter_map network_of_link (links_of lsa) else []

abbrev pub networks_named : List ℕ → List ℕ
networks_named lsa = if is_at_max_age lsa then [] else reported_networks lsa

-- one of both
abbrev pub named_by : Node → List ℕ → List ℕ
named_by Router lsa = routers_named lsa
named_by Network lsa = networks_named lsa

-- the AS boundary router that originated an AS-external-LSA
abbrev pub asbr_named : List ℕ → Option ℕ
asbr_named lsa =
    if is_at_max_age lsa then None else
    if kind_of lsa == external_lsa then Some (advertising_router_of lsa) else None

-- ---- what an LSA describes, at any age: a router or network whose LSA was flushed is not missing

-- the Link State ID of an LSA of this type
abbrev pub described_by : ℕ → List ℕ → Option ℕ
described_by kind lsa = if kind_of lsa == kind then Some (link_state_id_of lsa) else None

-- that of a router-LSA is the Router ID (12.1.4)
abbrev pub router_described : List ℕ → Option ℕ
router_described lsa = described_by router_lsa lsa

-- that of a network-LSA is the address of the Designated Router (12.1.4)
abbrev pub network_described : List ℕ → Option ℕ
network_described lsa = described_by network_lsa lsa

-- the AS boundary router that originated an AS-external-LSA
abbrev pub external_described : List ℕ → Option ℕ
external_described lsa = if kind_of lsa == external_lsa then Some (advertising_router_of lsa) else None

-- the type of the LSAs that describe these
abbrev pub ls_type_of : Node → ℕ
ls_type_of Router = router_lsa
ls_type_of Network = network_lsa
