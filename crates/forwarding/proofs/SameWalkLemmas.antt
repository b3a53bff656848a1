-- Walks from a start in two graphs whose steps are the same from each vertex that walks in the first reach.
use Rattle.std.proofs.Common.{◌≡◌, List, [], ◌∷◌, ◌++◌, refl, sym, subst}
use Rattle.std.specs.Prelude.{Contains}
use Rattle.area_graph.proofs.MemberLemmas.{In-from_Contains}
use Rattle.forwarding.specs.Walks.{IsWalk, Reaches}
use Rattle.forwarding.proofs.Walked.{walk_push}

module _ {V : Type 0} (next : V → List V) (start : V) where
  pub start_reached : Reaches next start start
  start_reached = ([], refl)

  pub reaches_on : (v u : V) → Reaches next start v → Contains (next v) u → Reaches next start u
  reaches_on v u reached step = (reached.0 ++ u ∷ [], walk_push next reached.0 start v u reached.1 (In-from_Contains (next v) u step))

  pub walk_reaches : (us : List V) (v w : V) → Reaches next start v → IsWalk next v us w → Reaches next start w
  walk_reaches [] v w reached walk = subst (λ (x : V). Reaches next start x) walk reached
  walk_reaches (u ∷ us) v w reached walk = walk_reaches us u w (reaches_on v u reached walk.0) walk.1

module _ {V : Type 0} (next other : V → List V) (start : V) (same : (v : V) → Reaches next start v → other v ≡ next v) where
  -- a walk of the first is one of the second
  pub walk_there : (us : List V) (v w : V) → Reaches next start v → IsWalk next v us w → IsWalk other v us w
  walk_there [] v w reached walk = walk
  walk_there (u ∷ us) v w reached walk = (
    subst (λ (xs : List V). Contains xs u) (sym (same v reached)) walk.0,
    walk_there us u w (reaches_on next start v u reached walk.0) walk.1,
  )

  pub reaches_there : (w : V) → Reaches next start w → Reaches other start w
  reaches_there w reached = (reached.0, walk_there reached.0 start w (start_reached next start) reached.1)

  -- and the second reaches nothing more
  still_reached : (us : List V) (v w : V) → Reaches next start v → IsWalk other v us w → Reaches next start w
  still_reached [] v w reached walk = subst (λ (x : V). Reaches next start x) walk reached
  still_reached (u ∷ us) v w reached walk =
      still_reached us u w (reaches_on next start v u reached (subst (λ (xs : List V). Contains xs u) (same v reached) walk.0)) walk.1

  pub reaches_back : (w : V) → Reaches other start w → Reaches next start w
  reaches_back w reached = still_reached reached.0 start w (start_reached next start) reached.1

  -- so the steps are the same from each vertex that walks in the second reach
  pub same_back : (v : V) → Reaches other start v → next v ≡ other v
  same_back v reached = sym (same v (reaches_back v reached))
