-- The best ways to each of the keys that candidates offer (RFC 2328, 16.1, 16.2 and 16.4).
use Rattle.std.specs.Prelude.{◌≡◌, List, Option, map}
use Rattle.std.specs.List.{filter, filter_map, flat_map}
use Rattle.std.specs.Option.{option_map}
use Rattle.std.specs.Ordering.{eq_by_cmp}
use Rattle.std.specs.declared.cmp.Ordering.{Ordering}
use Rattle.area_graph.specs.Least.{least}
use Rattle.lsa_codec.specs.Order.{area_cmp}
use Rattle.best_ways.specs.Order.{rank_cmp}
use Rattle.next_hops.specs.Hop.{hop_cmp}
use Rattle.area_graph.specs.Rising.{rising}
use Rattle.best_ways.specs.Candidate.{Candidate}
use Rattle.best_ways.specs.Values.{WayValue}
use Rattle.best_ways.specs.declared.rank.Rank.{Rank}

module _ {K : Type 0} where
  -- the candidates of one key that have the rank
  abbrev pub of_rank : Rank → List (Candidate K) → List (Candidate K)
  of_rank rank cs = filter (λ c. eq_by_cmp rank_cmp rank c.rank) cs

  -- the areas and the hops of the candidates, joined
  abbrev pub joined : Rank → List (Candidate K) → WayValue
  joined rank cs = record {
    rank = rank;
    areas = rising area_cmp (filter_map (λ c. c.area) cs);
    hops = rising hop_cmp (flat_map (λ c. c.hops) cs);
  }

  -- the way that candidates of one key give: the least rank, with the areas and hops of all candidates of
  -- that rank
  abbrev pub way_of : List (Candidate K) → Option WayValue
  way_of cs = option_map (λ rank. joined rank (of_rank rank cs)) (least rank_cmp (map (λ c. c.rank) cs))

  -- the candidates that were gathered are these
  abbrev pub Gathers : List (Candidate K) → List (Candidate K) → Type 0
  Gathers cs gathered = gathered ≡ cs

  module _ (R : K → K → Ordering) where
    -- the way to a key, if a candidate has it
    abbrev pub way_to : List (Candidate K) → K → Option WayValue
    way_to cs key = way_of (filter (λ c. eq_by_cmp R key c.key) cs)

    -- each key that a candidate has, once and in order, with the way to it
    abbrev pub ways_of : List (Candidate K) → List (K × WayValue)
    ways_of cs = filter_map (λ key. option_map (λ way. (key, way)) (way_to cs key)) (rising R (map (λ c. c.key) cs))
