-- The network that is chosen among those of one prefix, stated without the computation: a law over
-- `chosen`.
use Rattle.std.specs.Prelude.{◌≡◌, ◌<◌, ◌≤◌, ◌⊎◌, List, Contains}
use Rattle.lsa_codec.specs.Fields.{link_state_id_of}
use Rattle.lsa_codec.specs.Views.{net_of_lsa}
use Rattle.area_routes.specs.Reached.{ReachedValue}

-- a network is nearer than another, or as near and its Link State ID is no less
abbrev pub IsAsGoodAs : ReachedValue → ReachedValue → Type 0
IsAsGoodAs n m = (n.distance < m.distance) ⊎ ((n.distance ≡ m.distance) × (link_state_id_of m.lsa ≤ link_state_id_of n.lsa))

-- one of these networks, as good as each with its prefix
pub record IsBestOf (ns : List ReachedValue) (n : ReachedValue) : Type 0 where
  pub one : Contains ns n
  pub best : (m : ReachedValue) → Contains ns m → net_of_lsa m.lsa ≡ net_of_lsa n.lsa → IsAsGoodAs n m
