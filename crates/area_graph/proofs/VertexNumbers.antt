-- Vertices and their numbers.
use Rattle.std.proofs.Common.{zero, suc, [], refl, ◌+◌, ◌∷◌, ◌++◌, map, take, Bool, true, false, cond, not, arith, ◌≡◌, ◌≢◌, ℕ, ◌<◌, List, length}
use Rattle.std.proofs.Common.{get_or, Option, None, Some, sym, ap, ◌∙◌, ⊎_elim}
use Rattle.std.specs.List.{list_any, position_or_len}
use Rattle.std.specs.Prelude.{Contains, AllPairs, IfSome, slice_get, position}
use Rattle.std.proofs.lemmas.List.Quantifiers.{position-Some}
use Rattle.std.proofs.lemmas.Option.{slice_get-get_or, slice_get_within, get_or_from_slice_get}
use Rattle.std.proofs.lemmas.Bool.{cases_eq, cases_lt, lt-ltb}
use Rattle.std.proofs.lemmas.List.{length-map, take_more, map_push, get_or-map, get_or-take, take-map, length-take-le}
use Rattle.std.proofs.lemmas.Map.Views.{Contains-from_any}
use Rattle.indexmap.specs.IndexSet.{insert_key}
use Rattle.area_graph.specs.Area.{vertex_of}
use Rattle.area_graph.specs.declared.vertex.Vertex.{Vertex}
use Rattle.area_graph.specs.Vertex.{is_same}
use Rattle.area_graph.proofs.AllPathsLemmas.{same_from_is_same}
use Rattle.area_graph.proofs.MemberLemmas.{Some-same}

-- the vertex at the place that `position` finds
pub found : (vs : List Vertex) (v : Vertex) (i : ℕ) → position (is_same v) vs ≡ Some i → (i < length vs) × (slice_get vs i ≡ Some v)
found vs v i p =
    let r = position-Some (is_same v) vs i v p in
    (r.0, slice_get-get_or vs i v r.0 ∙ ap (λ (w : Vertex). Some w) (sym (same_from_is_same v (get_or vs i v) r.1)))

pub number_found : (vs : List Vertex) (v : Vertex) (o : Option ℕ) → o ≡ position (is_same v) vs → IfSome o (λ i. slice_get vs i ≡ Some v)
number_found vs v None p = tt
number_found vs v (Some i) p = (found vs v i (sym p)).1

-- a vertex of distinct ones is at one place
pub at_one_place : (vs : List Vertex) → AllPairs (λ v w. v ≢ w) vs → (i j : ℕ) (v : Vertex) → slice_get vs i ≡ Some v → slice_get vs j ≡ Some v → i ≡ j
at_one_place vs distinct i j v at_i at_j =
    ⊎_elim (λ same. same) (λ other. absurd (⊎_elim
    (λ lt. distinct i j v lt (slice_get_within vs j v at_j) (get_or_from_slice_get vs i v v at_i ∙ sym (get_or_from_slice_get vs j v v at_j)))
    (λ ge. (let lt : j < i = omega arith in distinct j i v lt (slice_get_within vs i v at_i)
    (get_or_from_slice_get vs j v v at_j ∙ sym (get_or_from_slice_get vs i v v at_i))))
    (cases_lt i j))) (cases_eq i j)

-- an item that passes a test is not before the first that does
passes_at : {X : Type 0} (p : X → Bool) (xs : List X) (i : ℕ) (x : X) → slice_get xs i ≡ Some x → p x ≡ true → position_or_len p xs < length xs
passes_at p [] i x at pass = absurd (cc)
passes_at {X} p (a ∷ xs) zero x at pass = rw (ap p (Some-same at) ∙ pass) (omega arith)
passes_at p (a ∷ xs) (suc i) x at pass = by (p a) (passes_at p xs i x at pass)
  where
    by : (b : Bool) → position_or_len p xs < length xs → cond (not b) (1 + position_or_len p xs) 0 < suc (length xs)
    by true lt = omega arith
    by false lt = omega arith

-- a vertex in a list has a number
pub has_number : (vs : List Vertex) (v w : Vertex) (i : ℕ) → slice_get vs i ≡ Some w → is_same v w ≡ true → (j : ℕ) × (position (is_same v) vs ≡ Some j)
has_number vs v w i at same =
    let j = position_or_len (is_same v) vs in
    (j, ap (λ (b : Bool). cond b (Some j) None) (lt-ltb j (length vs) (passes_at (is_same v) vs i w at same)))

pub missing : (vs : List Vertex) (v : Vertex) → position (is_same v) vs ≡ None → (i : ℕ) (w : Vertex) → slice_get vs i ≡ Some w → is_same v w ≡ true → ⊥
missing vs v none i w at same = let n = has_number vs v w i at same in let some : position (is_same v) vs ≡ Some n.0 = n.1 in absurd (cc)

-- a vertex after distinct ones is new
pub new_vertex : (vs : List Vertex) → AllPairs (λ v w. v ≢ w) vs → (i : ℕ) (v : Vertex) → i < length vs → get_or vs i v ≡ v
    → list_any (is_same v) (take i vs) ≡ false
new_vertex vs distinct i v lt at = by (list_any (is_same v) (take i vs)) refl
  where
    by : (b : Bool) → list_any (is_same v) (take i vs) ≡ b → b ≡ false
    by false e = refl
    by true e =
        let c = Contains-from_any same_from_is_same v (take i vs) e in
        repeated c
      where
        repeated : Contains (take i vs) v → true ≡ false
        repeated (k, below, is) =
            let short : length (take i vs) ≡ i = length-take-le i vs (omega arith) in
            let lt2 : k < i = omega arith in
            absurd (distinct k i v lt2 lt (sym (get_or-take i vs k v lt2) ∙ is ∙ sym at))

-- the keys with one more vertex
pub vertices_more : (lsas : List (List ℕ)) → AllPairs (λ v w. v ≢ w) (map vertex_of lsas) → (i : ℕ) (lsa : List ℕ) → i < length lsas → lsa ≡ get_or lsas i lsa
    → (keys new : List Vertex) → keys ≡ map vertex_of (take i lsas) → new ≡ insert_key is_same keys (vertex_of lsa) → new ≡ map vertex_of (take (i + 1) lsas)
vertices_more lsas distinct i lsa lt at keys new old is =
    let vs = map vertex_of lsas in
    let within : i < length vs = rw (length-map lsas vertex_of) lt in
    let here : get_or vs i (vertex_of lsa) ≡ vertex_of lsa = get_or-map vertex_of lsas i lsa (vertex_of lsa) lt ∙ ap vertex_of (sym at) in
    let front : keys ≡ take i vs = old ∙ sym (take-map vertex_of i lsas) in
    let fresh : list_any (is_same (vertex_of lsa)) keys ≡ false = ap (list_any (is_same (vertex_of lsa))) front
    ∙ new_vertex vs distinct i (vertex_of lsa) within here in
    let grown : new ≡ keys ++ vertex_of lsa ∷ [] = is ∙ ap (λ (b : Bool). cond b keys (keys ++ vertex_of lsa ∷ [])) fresh in
    let whole : map vertex_of (take (i + 1) lsas) ≡ map vertex_of (take i lsas) ++ vertex_of lsa ∷ [] =
    ap (map vertex_of) (take_more lsas i lsa lt ∙ ap (λ (x : List ℕ). take i lsas ++ x ∷ []) (sym at)) ∙ map_push vertex_of (take i lsas) lsa in
    grown ∙ ap (λ (ks : List Vertex). ks ++ vertex_of lsa ∷ []) old ∙ sym whole
