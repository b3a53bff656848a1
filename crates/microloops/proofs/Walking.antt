-- Walks put together.
use Rattle.std.proofs.Common.{List, [], ◌∷◌, ◌++◌, refl, sym, subst}
use Rattle.std.specs.List.{Contains}
use Rattle.forwarding.specs.Walks.{Goes, IsWalk, Reaches}

module _ {V : Type 0} (next : V → List V) where
  walk_append : (us ts : List V) (v w x : V) → IsWalk next v us w → IsWalk next w ts x → IsWalk next v (us ++ ts) x
  walk_append [] ts v w x p q = subst (λ (y : V). IsWalk next y ts x) (sym p) q
  walk_append (u ∷ us) ts v w x p q = (p.0, walk_append us ts u w x p.1 q)

  pub reach_self : (v : V) → Reaches next v v
  reach_self v = ([], refl)

  pub reach_then : (v w x : V) → Reaches next v w → Reaches next w x → Reaches next v x
  reach_then v w x r q = (r.0 ++ q.0, walk_append r.0 q.0 v w x r.1 q.1)

  pub reach_step : (v w x : V) → Contains (next v) w → Reaches next w x → Reaches next v x
  reach_step v w x c r = (w ∷ r.0, (c, r.1))

  pub goes_reaches : (v w : V) → Goes next v w → Reaches next v w
  goes_reaches v w g = reach_step v g.0 w g.1 g.2

  pub goes_then : (v w x : V) → Goes next v w → Reaches next w x → Goes next v x
  goes_then v w x g r = (g.0, g.1, reach_then g.0 w x g.2 r)

  from_walk : (us : List V) (v w x : V) → IsWalk next v us w → Goes next w x → Goes next v x
  from_walk [] v w x p g = subst (λ (y : V). Goes next y x) (sym p) g
  from_walk (u ∷ us) v w x p g = (u, p.0, reach_then u w x (us, p.1) (goes_reaches w x g))

  pub then_goes : (v w x : V) → Reaches next v w → Goes next w x → Goes next v x
  then_goes v w x r g = from_walk r.0 v w x r.1 g

  -- walks do not leave what no step leaves
  module _ (P : V → Type 0) (closed : (v w : V) → P v → Contains (next v) w → P w) where
    walk_stays : (us : List V) (v w : V) → IsWalk next v us w → P v → P w
    walk_stays [] v w p i = subst P p i
    walk_stays (u ∷ us) v w p i = walk_stays us u w p.1 (closed v u i p.0)

    pub stays : (v w : V) → Reaches next v w → P v → P w
    stays v w r i = walk_stays r.0 v w r.1 i
