-- The best way to a destination, with one more candidate.
use Rattle.std.specs.Prelude.{List, [], ◌∷◌, ◌++◌, Option, None, Some, map}
use Rattle.std.specs.Ordering.{match_ordering, ordering_then}
use Rattle.std.specs.declared.cmp.Ordering.{Ordering}
use Rattle.lsa_codec.specs.declared.address.Addr.{Addr}
use Rattle.lsa_codec.specs.Order.{area_cmp}
use Rattle.best_ways.specs.Candidate.{Candidate}
use Rattle.best_ways.specs.Order.{rank_cmp}
use Rattle.next_hops.specs.Hop.{extended, hop_cmp}
use Rattle.area_graph.specs.Rising.{rising}
use Rattle.best_ways.specs.Values.{WayValue}
use Rattle.lsa_codec.specs.declared.address.AreaId.{AreaId}
use Rattle.next_hops.specs.declared.hop.Hop.{Hop}
use Rattle.next_hops.specs.declared.hop.Hop.TheVariants.{Connected}

-- the hops of a way that goes on to an address, or does not
abbrev pub going_on : Option Addr → List Hop → List Hop
going_on None hops = hops
going_on (Some address) hops = map (λ hop. extended hop address) hops

-- the first of a way's hops; `Connected` where it has none
abbrev pub first_hop : List Hop → Hop
first_hop [] = Connected
first_hop (hop ∷ hops) = hop

-- areas with one more
abbrev pub add_area : List AreaId → Option AreaId → List AreaId
add_area areas None = areas
add_area areas (Some area) = rising area_cmp (areas ++ area ∷ [])

module _ {K : Type 0} where
  -- the way of one candidate
  abbrev pub fresh : Candidate K → WayValue
  fresh c = record { rank = c.rank; areas = add_area [] c.area; hops = rising hop_cmp c.hops }

  -- a way with the area and the hops of one more candidate
  abbrev pub merged : WayValue → Candidate K → WayValue
  merged w c = record w { areas = add_area w.areas c.area; hops = rising hop_cmp (w.hops ++ c.hops) }

  abbrev pub merge : Option WayValue → Candidate K → WayValue
  merge None c = fresh c
  merge (Some w) c = match_ordering (rank_cmp c.rank w.rank) (fresh c) (merged w c) w

  module _ (R : K → K → Ordering) where
    -- by the destination
    abbrev pub key_cmp : Candidate K → Candidate K → Ordering
    key_cmp a b = R a.key b.key

    -- by the destination, and then by the rank
    abbrev pub candidate_cmp : Candidate K → Candidate K → Ordering
    candidate_cmp a b = ordering_then (R a.key b.key) (rank_cmp a.rank b.rank)

    -- the same, and equal ones by their first hops
    abbrev pub contender_cmp : Candidate K → Candidate K → Ordering
    contender_cmp a b = ordering_then (candidate_cmp a b) (hop_cmp (first_hop a.hops) (first_hop b.hops))
