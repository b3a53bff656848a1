-- The stub links of an area's routers (RFC 2328, 12.4.1 and A.4.2).
use Rattle.std.specs.Prelude.{ℕ, ◌+◌, List, [], ◌∷◌, ◌++◌, Option, IsPermutation}
use Rattle.std.specs.List.{filter_map}
use Rattle.std.specs.Option.{option_map}
use Rattle.lsa_codec.specs.declared.link.Link.{Link}
use Rattle.lsa_codec.specs.Fields.{link_state_id_of}
use Rattle.lsa_codec.specs.Links.{stub_net}
use Rattle.area_graph.specs.Area.{used}
use Rattle.area_graph.specs.AreaEdges.{router_links}
use Rattle.area_routes.specs.declared.stub_links.StubLink.{StubLink}

-- a stub link of a router with the number of its vertex; other links give none
abbrev pub stub_link : ℕ → List ℕ → Link → Option StubLink
stub_link vertex lsa link = option_map (λ net. record { net = net; metric = link.metric; vertex = vertex; router = record { 0 = link_state_id_of lsa } }) (stub_net link)

-- the stub links of the LSA of a vertex, which only routers have
abbrev pub stub_links_of : ℕ → List ℕ → List StubLink
stub_links_of vertex lsa = filter_map (stub_link vertex lsa) (router_links lsa)

-- those of the LSAs of the vertices from a number on
unfoldable pub stub_links_from : ℕ → List (List ℕ) → List StubLink
stub_links_from vertex [] = []
stub_links_from vertex (lsa ∷ lsas) = stub_links_of vertex lsa ++ stub_links_from (vertex + 1) lsas

-- these are the stub links of an area with these LSAs, in some order
abbrev pub AreStubLinksOf : List (List ℕ) → List StubLink → Type 0
AreStubLinksOf lsas links = IsPermutation (stub_links_from 0 (used lsas)) links
