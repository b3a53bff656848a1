-- The stub networks that an area offers (RFC 2328, 16.1).
use Rattle.std.specs.Prelude.{ℕ, ◌+◌, Bool, ◌==◌, if◌then◌else◌, List, [], ◌∷◌, filter_map, flat_map, Option}
use Rattle.std.specs.Option.{option_map}
use Rattle.lsa_codec.specs.declared.address.RouterId.{RouterId}
use Rattle.lsa_codec.specs.declared.link.Link.{Link}
use Rattle.lsa_codec.specs.Fields.{link_state_id_of}
use Rattle.lsa_codec.specs.Links.{stub_net}
use Rattle.area_graph.specs.AreaEdges.{router_links}
use Rattle.next_hops.specs.declared.hop.Hop.{Hop}
use Rattle.next_hops.specs.declared.hop.Hop.TheVariants.{Connected}
use Rattle.area_routes.specs.Values.{OfferValue}
use Rattle.area_routes.specs.Reached.{ReachedValue}

-- whether a router-LSA is that of this router
abbrev pub is_lsa_of : RouterId → List ℕ → Bool
is_lsa_of router lsa = link_state_id_of lsa == router.0

-- the hops to a stub network of a router: those of the router, or `Connected` alone where it is the calculating
-- router
abbrev pub stub_hops : RouterId → ReachedValue → List Hop
stub_hops root r = if is_lsa_of root r.lsa then Connected ∷ [] else r.hops

-- the offer of a stub link of a router that is reached: its cost is the sum of the router's
-- distance and the link's metric
abbrev pub stub_offer : RouterId → ReachedValue → Link → Option OfferValue
stub_offer root r link = option_map (λ net. record { net = net; cost = r.distance + link.metric; hops = stub_hops root r }) (stub_net link)

-- the stub links of a router
abbrev pub stubs_of : RouterId → ReachedValue → List OfferValue
stubs_of root r = filter_map (stub_offer root r) (router_links r.lsa)

-- the offers of the stub links of all routers
abbrev pub stub_offers : RouterId → List ReachedValue → List OfferValue
stub_offers root rs = flat_map (stubs_of root) rs
