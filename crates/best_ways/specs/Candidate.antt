-- A way to a destination that one path offers, or several of equal cost.
use Rattle.std.specs.Prelude.{List, Option}
use Rattle.lsa_codec.specs.declared.address.AreaId.{AreaId}
use Rattle.next_hops.specs.declared.hop.Hop.{Hop}
use Rattle.best_ways.specs.declared.rank.Rank.{Rank}

-- the destination, what the way is compared by, the one area that it leads through, if it does, and its next hops
pub record Candidate (K : Type 0) : Type 0 where
  pub key : K
  pub rank : Rank
  pub area : Option AreaId
  pub hops : List Hop
