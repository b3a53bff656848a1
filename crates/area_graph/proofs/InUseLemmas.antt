-- For callers: the LSA in use of a vertex, by the vertex's number.
use Rattle.std.proofs.Common.{◌≡◌, ◌≢◌, ℕ, ◌<◌, List, map, get_or, Some, sym, ap, ◌∙◌, length}
use Rattle.std.specs.Prelude.{AllPairs, Contains, slice_get}
use Rattle.std.proofs.lemmas.List.{get_or-map, length-map}
use Rattle.std.proofs.lemmas.Option.{slice_get-get_or}
use Rattle.area_graph.specs.declared.vertex.Vertex.{Vertex}
use Rattle.area_graph.specs.Area.{used, vertex_of}
use Rattle.area_graph.specs.InUse.{IsLsaOf}
use Rattle.area_graph.proofs.VertexNumbers.{at_one_place}

pub lsa_at_number : (lsas : List (List ℕ)) → AllPairs (λ v w. v ≢ w) (map vertex_of (used lsas)) → (vertex : Vertex) (lsa : List ℕ) → IsLsaOf lsas vertex lsa
    → (i : ℕ) → slice_get (map vertex_of (used lsas)) i ≡ Some vertex → slice_get (used lsas) i ≡ Some lsa
lsa_at_number lsas distinct vertex lsa is i at = by is.in_use where
  by : Contains (used lsas) lsa → slice_get (used lsas) i ≡ Some lsa
  by (k, below, same) =
      let us = used lsas in
      let found : slice_get us k ≡ Some lsa = slice_get-get_or us k lsa below ∙ ap Some same in
      let within : k < length (map vertex_of us) = rw (length-map us vertex_of) below in
      let own : slice_get (map vertex_of us) k ≡ Some vertex =
      slice_get-get_or (map vertex_of us) k vertex within ∙ ap Some (get_or-map vertex_of us k lsa vertex below ∙ ap vertex_of same ∙ is.own) in
      let numbers : i ≡ k = at_one_place (map vertex_of us) distinct i k vertex at own in
      ap (slice_get us) numbers ∙ found
