-- The search for loops along a path of groups: a walk leads from each group to those that were found after it.
use Rattle.std.specs.Prelude.{◌≡◌, ◌↔◌, ◌⊎◌, true, List, [], ◌∷◌, Contains, Option, None, Some, MatchOption}
use Rattle.std.specs.BTreeMap.{is_at}
use Rattle.std.specs.BTreeSet.{BTreeSet}
use Rattle.std.specs.List.Sorted.{IsStrictlySortedBy}
use Rattle.std.specs.Map.{keys_of, lookup}
use Rattle.lsa_codec.specs.Order.{router_cmp}
use Rattle.lsa_codec.specs.declared.address.RouterId.{RouterId}
use Rattle.forwarding.specs.Walks.{IsLoopFrom, IsOnCycle, Reaches}
use Rattle.microloops.specs.steps.Groups.{GroupValue, Has, Lacks, OnPath}

-- the routers that were not seen, those on the path, the path itself, its last group first, and the loops that were found, by
-- their least routers
pub record SearchValue : Type 0 where
  pub unseen : BTreeSet RouterId
  pub on_path : BTreeSet RouterId
  pub path : List GroupValue
  pub loops : List (RouterId × List RouterId)

-- the loop of which a router is the least, if one was found
abbrev pub loop_at : List (RouterId × List RouterId) → RouterId → Option (List RouterId)
loop_at loops router = lookup (is_at (router_cmp router)) loops

-- all that walks lead to from the router was followed
pub record IsSettled (unseen on_path : BTreeSet RouterId) (router : RouterId) : Type 0 where
  pub seen : Lacks unseen router
  pub off_path : Lacks on_path router

-- with this group at the end of the path
abbrev pub with_last : GroupValue → SearchValue → SearchValue
with_last g s = record { unseen = s.unseen; on_path = s.on_path; path = g ∷ s.path; loops = s.loops }

module _ (next : RouterId → List RouterId) where
  -- a step from a group was followed: it does not lead back along the path, and within the group it makes a loop
  pub record IsFollowed (unseen : BTreeSet RouterId) (g : GroupValue) (below : List GroupValue) (router : RouterId) : Type 0 where
    pub seen : Lacks unseen router
    pub onward : ¬ OnPath below router
    pub inside : Has g.routers router → g.is_loop ≡ true

  -- a group of the path, after those below; steps to this router are just being followed
  pub record IsGroup (unseen : BTreeSet RouterId) (target : Option RouterId) (g : GroupValue) (below : List GroupValue) : Type 0 where
    pub joined : (v w : RouterId) → Has g.routers v → Has g.routers w → Reaches next v w
    pub led : (v w : RouterId) → OnPath below v → Has g.routers w → Reaches next v w
    pub sent : (w : RouterId) → Contains g.pending w → (v : RouterId) × Has g.routers v × Contains (next v) w
    pub rest : (v w : RouterId) → Has g.routers v → Contains (next v) w
        → Contains g.pending w ⊎ ((target ≡ Some w) ⊎ IsFollowed unseen g below w)
    pub cycles : g.is_loop ≡ true → (v : RouterId) → Has g.routers v → IsOnCycle next v
    pub seen : (v : RouterId) → Has g.routers v → Lacks unseen v
    pub apart : (v : RouterId) → Has g.routers v → ¬ OnPath below v

  abbrev pub ArePath : BTreeSet RouterId → Option RouterId → List GroupValue → Type 0
  ArePath unseen target [] = Unit {0}
  ArePath unseen target (g ∷ gs) = IsGroup unseen target g gs × ArePath unseen target gs

  -- the path, and the loops of all routers that are settled
  pub record IsSearch (target : Option RouterId) (s : SearchValue) : Type 0 where
    pub path : ArePath s.unseen target s.path
    pub on_path : (v : RouterId) → Has s.on_path v ↔ OnPath s.path v
    pub closed : (v w : RouterId) → IsSettled s.unseen s.on_path v → Contains (next v) w → IsSettled s.unseen s.on_path w
    pub ordered : IsStrictlySortedBy router_cmp (keys_of s.loops)
    pub each : (v : RouterId) (loop : List RouterId) → loop_at s.loops v ≡ Some loop → IsLoopFrom next v loop
    pub all : (v : RouterId) → IsSettled s.unseen s.on_path v → IsOnCycle next v
        → (least : RouterId) × (loop : List RouterId) × (loop_at s.loops least ≡ Some loop) × Contains loop v

  -- a group sends to this router
  abbrev pub Sends : GroupValue → RouterId → Type 0
  Sends g router = (v : RouterId) × Has g.routers v × Contains (next v) router

  -- this router is seen next: walks lead to it from the whole path
  pub record IsNext (router : RouterId) (s : SearchValue) : Type 0 where
    pub unseen : Has s.unseen router
    pub led : (v : RouterId) → OnPath s.path v → Reaches next v router
    pub search : IsSearch (Some router) s

  -- nothing is left to follow
  pub record IsDone (s : SearchValue) : Type 0 where
    pub search : IsSearch None s
    pub all_seen : (v : RouterId) → Lacks s.unseen v
    pub no_path : s.path ≡ []

  -- what is seen next, if anything is left
  abbrev pub IsFound : Option RouterId → SearchValue → Type 0
  IsFound found s = MatchOption found (IsDone s) (λ router. IsNext router s)
