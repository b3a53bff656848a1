-- Where all LSAs of an area are in use.
use Rattle.std.proofs.Common.{◌≡◌, ℕ, ◌≤◌, Bool, true, false, cond, List, [], ◌∷◌, length, refl, sym, ap, arith, ◌∙◌}
use Rattle.std.specs.List.{filter}
use Rattle.std.proofs.lemmas.List.{length-map}
use Rattle.std.proofs.lemmas.List.Sums.{length-filter, count_by-le-length}
use Rattle.area_graph.specs.declared.vertex.Vertex.{Vertex}
use Rattle.area_graph.specs.Area.{is_outranked_by, is_vertex_lsa, used, vertex_lsas, vertices_of, vertex_of}
use Rattle.std.specs.Prelude.{not}
use Rattle.std.specs.List.{list_any}

module _ {X : Type 0} (p : X → Bool) where
  no_more : (xs : List X) → length (filter p xs) ≤ length xs
  no_more xs =
      let a = length-filter p xs in
      let b = count_by-le-length p xs in
      omega (arith, a, b)

  -- a filter that leaves out nothing gives the whole list
  whole : (xs : List X) → length xs ≤ length (filter p xs) → filter p xs ≡ xs
  whole [] all = refl
  whole (x ∷ xs) all = by (p x) all (λ others. whole xs others)
    where
      by : (b : Bool) → length (x ∷ xs) ≤ length (cond b (x ∷ filter p xs) (filter p xs)) → (length xs ≤ length (filter p xs) → filter p xs ≡ xs)
          → cond b (x ∷ filter p xs) (filter p xs) ≡ x ∷ xs
      by true all rest = ap (λ (l : List X). x ∷ l) (rest (omega (arith, all)))
      by false all rest = absurd (let few = no_more xs in omega (arith, all, few))

-- where the number of LSAs in use is the number of LSAs, all are in use
all_used : (lsas : List (List ℕ)) → length (used lsas) ≡ length lsas → used lsas ≡ lsas
unfolding used
all_used lsas all =
    let top : List ℕ → Bool = λ lsa. not (list_any (is_outranked_by lsa) (vertex_lsas lsas)) in
    let few = no_more top (vertex_lsas lsas) in
    let fewer = no_more is_vertex_lsa lsas in
    let live : vertex_lsas lsas ≡ lsas = whole is_vertex_lsa lsas (omega (arith, all, few, fewer)) in
    whole top (vertex_lsas lsas) (omega (arith, all, few, fewer)) ∙ live

-- the same by the number of vertices
pub all_in_use : (lsas : List (List ℕ)) (vertices : List Vertex) → vertices ≡ vertices_of lsas → length lsas ≡ length vertices → used lsas ≡ lsas
all_in_use lsas vertices are count =
    all_used lsas (sym (count ∙ ap (λ (vs : List Vertex). length vs) are ∙ length-map (used lsas) vertex_of))
