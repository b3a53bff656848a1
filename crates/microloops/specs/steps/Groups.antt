-- Groups of routers that walks lead between in both directions.
use Rattle.std.specs.Prelude.{◌≡◌, ◌+◌, ◌⊎◌, Bool, true, false, ◌||◌, List, [], ◌∷◌, Contains, length, ℕ}
use Rattle.std.specs.BTreeSet.{BTreeSet, contains}
use Rattle.lsa_codec.specs.Order.{router_cmp}
use Rattle.lsa_codec.specs.declared.address.RouterId.{RouterId}

-- the routers of a group, those that steps from it lead to and that were not followed, and whether a walk within it comes back
pub record GroupValue : Type 0 where
  pub routers : BTreeSet RouterId
  pub pending : List RouterId
  pub is_loop : Bool

abbrev pub Has : BTreeSet RouterId → RouterId → Type 0
Has set router = contains router_cmp set router ≡ true

abbrev pub Lacks : BTreeSet RouterId → RouterId → Type 0
Lacks set router = contains router_cmp set router ≡ false

-- the routers and steps of two groups, which are on one loop
pub record IsJoined (a b joined : GroupValue) : Type 0 where
  pub routers : (router : RouterId) → contains router_cmp joined.routers router ≡ (contains router_cmp a.routers router || contains router_cmp b.routers router)
  pub from_pending : (router : RouterId) → Contains joined.pending router → Contains a.pending router ⊎ Contains b.pending router
  pub left : (router : RouterId) → Contains a.pending router → Contains joined.pending router
  pub right : (router : RouterId) → Contains b.pending router → Contains joined.pending router
  pub count : length joined.pending ≡ length a.pending + length b.pending
  pub is_loop : joined.is_loop ≡ true

-- a group of a path has the router
abbrev pub OnPath : List GroupValue → RouterId → Type 0
OnPath [] router = ⊥
OnPath (g ∷ gs) router = Has g.routers router ⊎ OnPath gs router

-- the groups and the steps that were not followed
abbrev pub work : List GroupValue → ℕ
work [] = 0
work (g ∷ gs) = (length g.pending + 1) + work gs
