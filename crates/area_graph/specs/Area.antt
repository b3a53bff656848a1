-- The LSAs of an area that make its graph, and the vertices (RFC 2328, 16.1).
use Rattle.std.specs.Prelude.{ℕ, Bool, ◌&&◌, ◌||◌, not, ◌==◌, nat_lt, if◌then◌else◌, List, filter, map}
use Rattle.std.specs.List.{list_any}
use Rattle.lsa_codec.specs.LsTypes.{router_lsa, network_lsa}
use Rattle.lsa_codec.specs.Fields.{kind_of, link_state_id_of, advertising_router_of}
use Rattle.lsa_codec.specs.Key.{is_at_max_age}
use Rattle.area_graph.specs.declared.vertex.Vertex.{Vertex}
use Rattle.area_graph.specs.declared.vertex.Vertex.TheVariants.{Router, Network}

abbrev pub is_router_lsa : List ℕ → Bool
is_router_lsa lsa = kind_of lsa == router_lsa

abbrev pub is_network_lsa : List ℕ → Bool
is_network_lsa lsa = kind_of lsa == network_lsa

-- not at MaxAge
abbrev pub is_live : List ℕ → Bool
is_live lsa = not (is_at_max_age lsa)

-- a live router-LSA or network-LSA
abbrev pub is_vertex_lsa : List ℕ → Bool
is_vertex_lsa lsa = is_live lsa && (is_router_lsa lsa || is_network_lsa lsa)

abbrev pub vertex_lsas : List (List ℕ) → List (List ℕ)
vertex_lsas lsas = filter is_vertex_lsa lsas

-- a network-LSA of this Link State ID, by a router with a greater Router ID than this one
abbrev pub outranks : ℕ → ℕ → List ℕ → Bool
outranks id router other = is_network_lsa other && ((link_state_id_of other == id) && nat_lt router (advertising_router_of other))

-- a network-LSA, where the other is one of the same Link State ID with a greater Advertising Router
abbrev pub is_outranked_by : List ℕ → List ℕ → Bool
is_outranked_by lsa other = is_network_lsa lsa && outranks (link_state_id_of lsa) (advertising_router_of lsa) other

-- those that no other outranks
abbrev pub highest : List (List ℕ) → List (List ℕ)
highest lsas = filter (λ lsa. not (list_any (is_outranked_by lsa) lsas)) lsas

-- the LSAs in use: the live router-LSAs and, of the live network-LSAs of one Link State ID, the one with the greatest
-- Advertising Router
unfoldable pub used : List (List ℕ) → List (List ℕ)
used lsas = highest (vertex_lsas lsas)

-- the vertex of a router-LSA or network-LSA (A.4.1)
abbrev pub vertex_of : List ℕ → Vertex
vertex_of lsa = if is_router_lsa lsa then Router (record { 0 = link_state_id_of lsa }) else Network (record { 0 = link_state_id_of lsa })

-- the vertices of an area, in the order of the LSAs in use
abbrev pub vertices_of : List (List ℕ) → List Vertex
vertices_of lsas = map vertex_of (used lsas)
