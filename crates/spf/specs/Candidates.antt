-- The order in which vertices are settled (RFC 2328, 16.1).
use Rattle.std.specs.Prelude.{◌≡◌, ℕ, Bool, false, not, List, Option, None, Some, slice_index_or, slice_get}
use Rattle.std.specs.Option.{option_map_or}
use Rattle.std.specs.Ordering.{ordering_then, bool_cmp, nat_cmp}
use Rattle.std.specs.declared.cmp.Ordering.{Ordering}
use Rattle.std.specs.declared.cmp.Ordering.TheVariants.{Less}
use Rattle.std.specs.Cmp.{IsTotalOrder, on_total, then_total, nat_cmp_total, bool_cmp_total}
use Rattle.area_graph.specs.Vertex.{is_network}
use Rattle.area_graph.specs.Topology.{Topology}
use Rattle.spf.specs.declared.queue.Candidate.{Candidate}

-- less distance first, then a network before a router, then the lower number
abbrev pub candidate_cmp : Candidate → Candidate → Ordering
candidate_cmp a b = ordering_then (nat_cmp a.distance b.distance) (ordering_then (bool_cmp a.is_router b.is_router) (nat_cmp a.index b.index))

-- of each two candidates it says which one is first, and only of equal ones that neither is
pub candidate_cmp_total : IsTotalOrder candidate_cmp
candidate_cmp_total =
    then_total (on_total (λ (c : Candidate). c.distance) nat_cmp_total)
    (then_total (on_total (λ (c : Candidate). c.is_router) bool_cmp_total) (on_total (λ (c : Candidate). c.index) nat_cmp_total))

-- whether the vertex with this number is a router
abbrev pub is_router_at : Topology → ℕ → Bool
is_router_at t i = option_map_or (λ v. not (is_network v)) (slice_get t.vertices i) false

-- the vertex with this number, at this distance
abbrev pub candidate_at : Topology → ℕ → ℕ → Candidate
candidate_at t distance i = record { distance = distance; is_router = is_router_at t i; index = i }

-- by these distances the first of two vertices stands before the second
abbrev pub IsEarlier : Topology → List (Option ℕ) → ℕ → ℕ → Type 0
IsEarlier t ds i j = (d e : ℕ) → slice_index_or ds i None ≡ Some d → slice_index_or ds j None ≡ Some e → candidate_cmp (candidate_at t d i) (candidate_at t e j) ≡ Less
