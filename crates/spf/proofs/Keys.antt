-- The order of candidates as an order of numbers: in proofs, two candidates are compared by their keys.
use Rattle.std.proofs.Common.{◌≡◌, ℕ, ◌+◌, ◌*◌, ◌<◌, ◌≤◌, Bool, true, false, not, length, Option, cond, refl, sym, ap, ◌∙◌, subst, arith, ⊎_elim}
use Rattle.std.specs.Option.{option_map_or}
use Rattle.std.specs.Ordering.{is_lt, nat_cmp, bool_cmp, ordering_then, ordering_reverse}
use Rattle.std.specs.declared.cmp.Ordering.{Ordering}
use Rattle.std.specs.declared.cmp.Ordering.TheVariants.{Less, Equal, Greater}
use Rattle.std.specs.Cmp.{nat_cmp_is}
use Rattle.std.proofs.lemmas.Bool.{cases_eq, cases_lt, false≢true}
use Rattle.std.proofs.lemmas.Option.{slice_get-get_or}
use Rattle.area_graph.specs.declared.vertex.Vertex.{Vertex}
use Rattle.area_graph.specs.declared.vertex.Vertex.TheVariants.{Router}
use Rattle.area_graph.specs.Vertex.{is_network}
use Rattle.area_graph.specs.Paths.{DirectedEdge}
use Rattle.area_graph.specs.Topology.{Topology, IsTopology, IsArc}
use Rattle.area_graph.proofs.TopologyLemmas.{name, arc_kind, IsArc-from}
use Rattle.spf.specs.declared.queue.Candidate.{Candidate}
use Rattle.spf.specs.Candidates.{candidate_cmp, candidate_cmp_total, candidate_at, is_router_at}

-- the order of candidates of an area as one number
abbrev pub key : Candidate → ℕ
key c = (2 * c.distance + cond c.is_router 1 0) * 8192 + c.index

abbrev pub key_at : Topology → ℕ → ℕ → ℕ
key_at t d i = key (candidate_at t d i)

-- what is not before another has no less key
pub key-le : (c o : Candidate) → c.index < 8192 → o.index < 8192 → is_lt (candidate_cmp o c) ≡ false → key c ≤ key o
key-le c o small small' h =
    ⊎_elim
    (λ same. at_same same c.is_router o.is_router (rw (sym (nat_cmp_is o.distance c.distance Equal same)) at h))
    (λ other. ⊎_elim
    (λ lt. absurd (false≢true (sym (let k : true ≡ false = rw (sym (nat_cmp_is o.distance c.distance Less lt)) at h in k))))
    (λ ge. (let gt : c.distance < o.distance = omega arith in further gt c.is_router o.is_router))
    (cases_lt o.distance c.distance))
    (cases_eq o.distance c.distance)
  where
    further : c.distance < o.distance → (b b' : Bool) → (2 * c.distance + cond b 1 0) * 8192 + c.index ≤ (2 * o.distance + cond b' 1 0) * 8192 + o.index
    further gt true true = omega arith
    further gt true false = omega arith
    further gt false true = omega arith
    further gt false false = omega arith

    by_index : is_lt (nat_cmp o.index c.index) ≡ false → c.index ≤ o.index
    by_index h =
        ⊎_elim (λ lt. absurd
        (false≢true (sym (let k : true ≡ false = rw (sym (nat_cmp_is o.index c.index Less lt)) at h in k)))) (λ ge. ge) (cases_lt o.index c.index)

    at_same : o.distance ≡ c.distance → (b b' : Bool) → is_lt (ordering_then (bool_cmp b' b) (nat_cmp o.index c.index)) ≡ false
        → (2 * c.distance + cond b 1 0) * 8192 + c.index ≤ (2 * o.distance + cond b' 1 0) * 8192 + o.index
    at_same same true true h = let le = by_index h in omega arith
    at_same same true false h = absurd (false≢true (sym h))
    at_same same false true h = omega arith
    at_same same false false h = let le = by_index h in omega arith

-- whether a vertex is a router
pub is_router_named : (t : Topology) (i : ℕ) → i < length t.vertices → is_router_at t i ≡ not (is_network (name t i))
is_router_named t i h = ap (λ (o : Option Vertex). option_map_or (λ (v : Vertex). not (is_network v)) o false)
    (slice_get-get_or t.vertices i (Router (record { 0 = 0 })) h)

-- an edge leads to a greater key
pub arc_key : (t : Topology) (shape : IsTopology t) (e : DirectedEdge ℕ) (d : ℕ) → IsArc t e → key_at t d e.from < key_at t (d + e.cost) e.to
arc_key t shape e d arc =
    let few : length t.vertices ≤ 8192 = shape.few in
    let one : e.from < length t.vertices = IsArc-from t shape e arc in
    let from_kind : is_router_at t e.from ≡ not (is_network (name t e.from)) = is_router_named t e.from one in
    let to_kind : is_router_at t e.to ≡ not (is_network (name t e.to)) = is_router_named t e.to (shape.in_range e arc) in
    ⊎_elim
    (λ router. (let r : is_router_at t e.from ≡ true = from_kind ∙ ap (λ (b : Bool). not b) router.0 in
    subst (λ (b : Bool). (2 * d + cond b 1 0) * 8192 + e.from < key_at t (d + e.cost) e.to) (sym r) (from_router (omega arith) (is_router_at t e.to) router.1)))
    (λ network. (let r : is_router_at t e.from ≡ false = from_kind ∙ ap (λ (b : Bool). not b) network.0 in
    let r' : is_router_at t e.to ≡ true = to_kind ∙ ap (λ (b : Bool). not b) network.2 in
    let lt : (2 * d + 0) * 8192 + e.from < (2 * (d + e.cost) + 1) * 8192 + e.to = omega arith in
    subst (λ (b : Bool). (2 * d + cond b 1 0) * 8192 + e.from < key_at t (d + e.cost) e.to) (sym r)
    (subst (λ (b : Bool). (2 * d + 0) * 8192 + e.from < (2 * (d + e.cost) + cond b 1 0) * 8192 + e.to) (sym r') lt)))
    (arc_kind t shape e arc)
  where
    from_router : e.from < 8192 → (b : Bool) → 0 < e.cost → (2 * d + 1) * 8192 + e.from < (2 * (d + e.cost) + cond b 1 0) * 8192 + e.to
    from_router small true cost = omega arith
    from_router small false cost = omega arith

-- of two candidates only one is before the other
pub not_both_Less : (a b : Candidate) → candidate_cmp a b ≡ Less → candidate_cmp b a ≡ Less → ⊥
not_both_Less a b one two =
    let back : Less ≡ Greater = sym one ∙ candidate_cmp_total.antisymm a b ∙ ap (λ (o : Ordering). ordering_reverse o) two in
    cc

-- a less key is an earlier candidate
pub Less-from_key : (a b : Candidate) → a.index < 8192 → b.index < 8192 → key a < key b → candidate_cmp a b ≡ Less
Less-from_key a b small small' h =
    ⊎_elim
    (λ same. rw (sym (nat_cmp_is a.distance b.distance Equal same)) (at_same same a.is_router b.is_router h))
    (λ other. ⊎_elim
    (λ lt. rw (sym (nat_cmp_is a.distance b.distance Less lt)) refl)
    (λ ge. (let gt : b.distance < a.distance = omega arith in absurd (further gt a.is_router b.is_router h)))
    (cases_lt a.distance b.distance))
    (cases_eq a.distance b.distance)
  where
    further : b.distance < a.distance → (x y : Bool) → (2 * a.distance + cond x 1 0) * 8192 + a.index < (2 * b.distance + cond y 1 0) * 8192 + b.index → ⊥
    further gt true true h = omega arith
    further gt true false h = omega arith
    further gt false true h = omega arith
    further gt false false h = omega arith

    at_same : a.distance ≡ b.distance → (x y : Bool) → (2 * a.distance + cond x 1 0) * 8192 + a.index < (2 * b.distance + cond y 1 0)
        * 8192 + b.index → ordering_then (bool_cmp x y) (nat_cmp a.index b.index) ≡ Less
    at_same same true true h = sym (nat_cmp_is a.index b.index Less (omega arith))
    at_same same true false h = absurd (omega arith)
    at_same same false true h = refl
    at_same same false false h = sym (nat_cmp_is a.index b.index Less (omega arith))

-- a less key is a less distance
pub distance_from_key : (d e i j : ℕ) (b b' : Bool) → i < 8192 → j < 8192 → (2 * d + cond b 1 0) * 8192 + i ≤ (2 * e + cond b' 1 0) * 8192 + j → d ≤ e
distance_from_key d e i j true true small small' h = omega arith
distance_from_key d e i j true false small small' h = omega arith
distance_from_key d e i j false true small small' h = omega arith
distance_from_key d e i j false false small small' h = omega arith
