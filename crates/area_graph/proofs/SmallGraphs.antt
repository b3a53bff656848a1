-- The definitions of `AllPaths` computed on small graphs.
use Rattle.std.proofs.Common.{◌≡◌, ℕ, List, [], ◌∷◌, None, Some, refl}
use Rattle.area_graph.specs.declared.vertex.Vertex.{Vertex}
use Rattle.area_graph.specs.declared.vertex.Vertex.TheVariants.{Router}
use Rattle.area_graph.specs.Paths.{DirectedEdge}
use Rattle.area_graph.specs.AllPaths.{lists_within, leads, paths_of, distance_of}

router : ℕ → Vertex
router n = Router (record { 0 = n })

edge : ℕ → ℕ → ℕ → DirectedEdge Vertex
edge v w cost = record { from = Router (record { 0 = v }); to = Router (record { 0 = w }); cost = cost; link_data = record { 0 = 0 } }

-- two ways from 1 to 4, of cost 5 and 7, with a way back
diamond : List (DirectedEdge Vertex)
diamond = edge 1 2 2 ∷ edge 1 3 3 ∷ edge 2 4 3 ∷ edge 3 4 4 ∷ []

to_itself : distance_of diamond (router 1) (router 1) ≡ Some 0
unfolding lists_within leads paths_of distance_of router edge diamond
to_itself = refl

the_shorter : distance_of diamond (router 1) (router 4) ≡ Some 5
unfolding lists_within leads paths_of distance_of router edge diamond
the_shorter = refl

no_way_back : distance_of diamond (router 4) (router 1) ≡ None
unfolding lists_within leads paths_of distance_of router edge diamond
no_way_back = refl
