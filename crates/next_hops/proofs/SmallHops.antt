-- `hops_of` computed on small graphs.
use Rattle.std.proofs.Common.{◌≡◌, ℕ, List, [], ◌∷◌, refl}
use Rattle.lsa_codec.specs.declared.address.Addr.{Addr}
use Rattle.area_graph.specs.declared.vertex.Vertex.{Vertex}
use Rattle.area_graph.specs.declared.vertex.Vertex.TheVariants.{Router, Network}
use Rattle.area_graph.specs.Paths.{DirectedEdge}
use Rattle.area_graph.specs.AllPaths.{lists_within, leads, paths_of, least_paths_of}
use Rattle.next_hops.specs.declared.hop.Hop.TheVariants.{Link, Attached, Gateway}
use Rattle.next_hops.specs.FirstHops.{hops_of}

router : ℕ → Vertex
router n = Router (record { 0 = n })

network : ℕ → Vertex
network n = Network (record { 0 = n })

addr : ℕ → Addr
addr n = record { 0 = n }

edge : Vertex → Vertex → ℕ → ℕ → DirectedEdge Vertex
edge v w cost data' = record { from = v; to = w; cost = cost; link_data = record { 0 = data' } }

-- router 1 reaches router 2 over a network, and over a link of the same cost
shared : List (DirectedEdge Vertex)
unfolding router network edge
shared = edge (router 1) (network 9) 10 11 ∷ edge (network 9) (router 2) 0 12 ∷ edge (network 9) (router 1) 0 11 ∷ edge (router 1) (router 2) 10 21 ∷ []

both_ways : hops_of shared (router 1) (router 2) ≡ Link (addr 21) ∷ Gateway (addr 11) (addr 12) ∷ []
unfolding lists_within leads paths_of least_paths_of hops_of router network edge addr shared
both_ways = refl

on_the_network : hops_of shared (router 1) (network 9) ≡ Attached (addr 11) ∷ []
unfolding lists_within leads paths_of least_paths_of hops_of router network edge addr shared
on_the_network = refl

none_to_itself : hops_of shared (router 1) (router 1) ≡ []
unfolding lists_within leads paths_of least_paths_of hops_of router network edge addr shared
none_to_itself = refl

-- two parallel links of one cost, and one of a greater cost
parallel : List (DirectedEdge Vertex)
unfolding router edge
parallel = edge (router 1) (router 2) 10 21 ∷ edge (router 1) (router 2) 10 11 ∷ edge (router 1) (router 2) 11 31 ∷ []

both_links : hops_of parallel (router 1) (router 2) ≡ Link (addr 11) ∷ Link (addr 21) ∷ []
unfolding lists_within leads paths_of least_paths_of hops_of router edge addr parallel
both_links = refl
