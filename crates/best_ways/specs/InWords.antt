-- What the ways are, apart from how they are computed: a law over `ways_of`.
use Rattle.std.specs.Prelude.{◌≡◌, List, Bool, true, false, ◌&&◌, Option, None, Some}
use Rattle.std.specs.List.{list_any}
use Rattle.std.specs.List.Sorted.{IsStrictlySortedBy}
use Rattle.std.specs.Map.{keys_of, lookup}
use Rattle.std.specs.Option.{MatchOption}
use Rattle.std.specs.Ordering.{eq_by_cmp, is_lt}
use Rattle.std.specs.declared.cmp.Ordering.{Ordering}
use Rattle.best_ways.specs.Candidate.{Candidate}
use Rattle.lsa_codec.specs.Order.{area_cmp}
use Rattle.best_ways.specs.Order.{rank_cmp}
use Rattle.next_hops.specs.Hop.{hop_cmp}
use Rattle.best_ways.specs.Values.{WayValue}
use Rattle.lsa_codec.specs.declared.address.AreaId.{AreaId}
use Rattle.next_hops.specs.declared.hop.Hop.{Hop}
use Rattle.best_ways.specs.declared.rank.Rank.{Rank}

-- whether there is a value that passes the test
abbrev pub is_some_and : {A : Type 0} → (A → Bool) → Option A → Bool
is_some_and p None = false
is_some_and p (Some a) = p a

module _ {K : Type 0} (R : K → K → Ordering) where
  -- whether the candidate is one for the key
  abbrev pub is_candidate_to : K → Candidate K → Bool
  is_candidate_to key c = eq_by_cmp R key c.key

  -- whether the candidate has this rank, too
  abbrev pub attains : K → Rank → Candidate K → Bool
  attains key rank c = is_candidate_to key c && eq_by_cmp rank_cmp rank c.rank

  -- the properties of the way to a key
  pub record IsBestWay (cs : List (Candidate K)) (key : K) (way : WayValue) : Type 0 where
    pub attained : list_any (attains key way.rank) cs ≡ true
    pub least : list_any (λ c. is_candidate_to key c && is_lt (rank_cmp c.rank way.rank)) cs ≡ false
    pub hops : (hop : Hop) → list_any (eq_by_cmp hop_cmp hop) way.hops ≡ list_any (λ c. attains key way.rank c && list_any (eq_by_cmp hop_cmp hop) c.hops) cs
    pub areas : (area : AreaId) → list_any (eq_by_cmp area_cmp area) way.areas ≡ list_any (λ c. attains key way.rank c && is_some_and (eq_by_cmp area_cmp area) c.area) cs
    pub areas_rise : IsStrictlySortedBy area_cmp way.areas
    pub hops_rise : IsStrictlySortedBy hop_cmp way.hops

  -- the properties of the whole list: keys in order, each with a candidate, each candidate's key there, each way the
  -- best
  pub record AreBestWays (cs : List (Candidate K)) (ways : List (K × WayValue)) : Type 0 where
    pub keys_rise : IsStrictlySortedBy R (keys_of ways)
    pub at_key : (key : K) → MatchOption (lookup (eq_by_cmp R key) ways) (list_any (is_candidate_to key) cs ≡ false) (IsBestWay cs key)
