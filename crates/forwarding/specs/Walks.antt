-- Walks along the steps of a graph, of any length: what they reach, and where they come back.
use Rattle.std.specs.Prelude.{◌≡◌, ◌<◌, ◌≤◌, ◌↔◌, ◌⊎◌, ℕ, List, [], ◌∷◌, length, All, AllPairs, Contains, Some, slice_get}
use Rattle.lsa_codec.specs.declared.address.RouterId.{RouterId}

-- `next` has the vertices to which a step leads from each
module _ {V : Type 0} (next : V → List V) where
  -- steps from one vertex to another, over these
  abbrev pub IsWalk : V → List V → V → Type 0
  IsWalk v [] w = v ≡ w
  IsWalk v (u ∷ us) w = Contains (next v) u × IsWalk u us w

  -- some walk leads from one vertex to another
  abbrev pub Reaches : V → V → Type 0
  Reaches v w = (us : List V) × IsWalk v us w

  -- some walk of one step or more does
  abbrev pub Goes : V → V → Type 0
  Goes v w = (u : V) × Contains (next v) u × Reaches u w

  -- a walk comes back
  abbrev pub IsOnCycle : V → Type 0
  IsOnCycle v = Goes v v

  -- some walk has this number of steps, and none has fewer
  abbrev pub IsLeastSteps : V → V → ℕ → Type 0
  IsLeastSteps v w n = ((us : List V) × IsWalk v us w × (length us ≡ n)) × ((us : List V) → IsWalk v us w → n ≤ length us)

-- ---- among routers

abbrev pub IsLess : RouterId → RouterId → Type 0
IsLess v w = v.0 < w.0

module _ (next : RouterId → List RouterId) where
  -- fewer steps from the start lead to the first, or the same number, and it has the lesser Router ID
  abbrev pub IsNearer : RouterId → RouterId → RouterId → Type 0
  IsNearer start v w = (m n : ℕ) → IsLeastSteps next start v m → IsLeastSteps next start w n → (m < n) ⊎ ((m ≡ n) × IsLess v w)

  -- these are the routers that walks reach, each once: by the least number of steps, then by Router ID
  pub record AreReached (start : RouterId) (found : List RouterId) : Type 0 where
    pub members : (router : RouterId) → Contains found router ↔ Reaches next start router
    pub order : AllPairs (IsNearer start) found

  -- these are the routers of the loop of a router, in rising order: walks of one step or more lead from each to the other
  pub record IsLoopOf (router : RouterId) (loop : List RouterId) : Type 0 where
    pub members : (other : RouterId) → Contains loop other ↔ (Goes next router other × Goes next other router)
    pub order : AllPairs IsLess loop

  -- a router is the least of a loop
  pub record IsLoopFrom (router : RouterId) (loop : List RouterId) : Type 0 where
    pub loop_of : IsLoopOf router loop
    pub least : slice_get loop 0 ≡ Some router

  -- the least router of the first loop is the lesser
  abbrev pub StartsBefore : List RouterId → List RouterId → Type 0
  StartsBefore a b = (v w : RouterId) → slice_get a 0 ≡ Some v → slice_get b 0 ≡ Some w → IsLess v w

  -- these are the loops whose least routers are among some routers, in order of these
  pub record AreLoops (routers : List RouterId) (loops : List (List RouterId)) : Type 0 where
    pub each : All (λ loop. (router : RouterId) × Contains routers router × IsLoopFrom router loop) loops
    pub all : (router : RouterId) (loop : List RouterId) → Contains routers router → IsLoopFrom router loop → Contains loops loop
    pub order : AllPairs StartsBefore loops
