-- A cycle of two graphs together is one when some routers have changed over, and others have not.
use Rattle.std.proofs.Common.{◌≡◌, Bool, true, false, cond, List, [], ◌∷◌, ◌++◌, refl, sym, ◌∙◌, subst, ◌⊎◌, inl, inr, ⊎_elim}
use Rattle.std.specs.Prelude.{◌↔◌}
use Rattle.std.specs.BTreeMap.{is_at}
use Rattle.std.specs.List.{Contains, list_any}
use Rattle.std.proofs.lemmas.Bool.{false≢true}
use Rattle.std.proofs.lemmas.List.Elements.{Contains-append_cases, Contains-append_left, Contains-append_right}
use Rattle.lsa_codec.specs.Order.{router_cmp}
use Rattle.lsa_codec.specs.declared.address.RouterId.{RouterId}
use Rattle.area_graph.proofs.MemberLemmas.{In, In-list_any, list_any-In}
use Rattle.forwarding.specs.Graphs.{StepValue, next_in}
use Rattle.forwarding.specs.Walks.{IsOnCycle, IsWalk}
use Rattle.microloops.specs.Changeover.{AreAllLoops, AreMicroloops, MayLoop, next_amid, next_in_either, routers_in_either, routers_of}
use Rattle.microloops.proofs.SameSteps.{HasSteps, goes_has, same_loops}
use Rattle.microloops.proofs.Sets.{at_same, at_self}

-- ---- walks within a set of routers

module _ (next : RouterId → List RouterId) (within : List RouterId) where
  -- each step is from one of the routers
  abbrev IsWalkWithin : RouterId → List RouterId → RouterId → Type 0
  IsWalkWithin v [] w = v ≡ w
  IsWalkWithin v (u ∷ us) w = In within v × Contains (next v) u × IsWalkWithin u us w

  abbrev GoesWithin : RouterId → RouterId → Type 0
  GoesWithin v w = (u : RouterId) × (us : List RouterId) × IsWalkWithin v (u ∷ us) w

  walk_of : (us : List RouterId) (v w : RouterId) → IsWalkWithin v us w → IsWalk next v us w
  walk_of [] v w p = p
  walk_of (u ∷ us) v w p = (p.1, walk_of us u w p.2)

-- the same walk in more routers, where these send to the same
walk_more : (one other : RouterId → List RouterId) (within more : List RouterId) → ((v : RouterId) → In within v → In more v)
    → ((v w : RouterId) → In within v → Contains (one v) w → Contains (other v) w) → (us : List RouterId) (v w : RouterId)
    → IsWalkWithin one within v us w → IsWalkWithin other more v us w
walk_more one other within more there same [] v w p = p
walk_more one other within more there same (u ∷ us) v w p =
    (there v p.0, same v u p.0 p.1, walk_more one other within more there same us u w p.2)

member_or : (routers : List RouterId) (v : RouterId) → In routers v ⊎ (In routers v → ⊥)
member_or routers v = by (list_any (is_at (router_cmp v)) routers) refl
  where
    by : (b : Bool) → list_any (is_at (router_cmp v)) routers ≡ b → In routers v ⊎ (In routers v → ⊥)
    by true is =
        let f = list_any-In (is_at (router_cmp v)) routers is in
        inl (subst (λ (x : RouterId). In routers x) (sym (at_same v f.0 f.2)) f.1)
    by false is = inr (λ i. false≢true (sym is ∙ In-list_any (is_at (router_cmp v)) routers v i (at_self v)))

module _ (before after : List StepValue) where
  -- ---- which routers have changed over

  -- routers of a walk, and which of them have changed over, so that all of them go on to its end
  record IsChosen (v w : RouterId) : Type 0 where
    pub has_changed : RouterId → Bool
    pub within : List RouterId
    pub here : In within v
    pub each : (x : RouterId) → In within x → GoesWithin (next_amid before after has_changed) within x w

  side : (v u : RouterId) → Contains (next_in_either before after v) u → (b : Bool) × Contains (cond b (next_in after v) (next_in before v)) u
  side v u c = ⊎_elim (λ l. (false, l)) (λ r. (true, r)) (Contains-append_cases (next_in before v) (next_in after v) u c)

  -- one step
  chosen_one : (v u w : RouterId) → Contains (next_in_either before after v) u → u ≡ w → IsChosen v w
  chosen_one v u w c same =
      let s = side v u c in record {
        has_changed = λ x. s.0;
        within = v ∷ [];
        here = inl refl;
        each = λ x. ⊎_elim
            (λ e. (u, [], (inl e, subst (λ (y : RouterId). Contains (cond s.0 (next_in after y) (next_in before y)) u) e s.1, same)))
            (λ z. absurd z);
      }

  -- one step before others, from a router that they do not pass
  module _ (v u w : RouterId) (c : Contains (next_in_either before after v) u) (rest : IsChosen u w) (fresh : In rest.within v → ⊥) where
    abbrev changed : RouterId → Bool
    changed x = cond (is_at (router_cmp v) x) (side v u c).0 (rest.has_changed x)

    others : (x y : RouterId) → In rest.within x → Contains (next_amid before after rest.has_changed x) y → Contains (next_amid before after changed x) y
    others x y i step = by (is_at (router_cmp v) x) refl
      where
        by : (b : Bool) → is_at (router_cmp v) x ≡ b
            → Contains (cond (cond b (side v u c).0 (rest.has_changed x)) (next_in after x) (next_in before x)) y
        by true is = absurd (fresh (subst (λ (z : RouterId). In rest.within z) (sym (at_same v x is)) i))
        by false is = step

    first : Contains (next_amid before after changed v) u
    first =
        subst (λ (b : Bool). Contains (cond (cond b (side v u c).0 (rest.has_changed v)) (next_in after v) (next_in before v)) u) (sym (at_self v)) (side v u c).1

    kept : (us : List RouterId) (x : RouterId) → IsWalkWithin (next_amid before after rest.has_changed) rest.within x us w
        → IsWalkWithin (next_amid before after changed) (v ∷ rest.within) x us w
    kept us x p =
        walk_more (next_amid before after rest.has_changed) (next_amid before after changed) rest.within (v ∷ rest.within) (λ y i. inr i) others us x w p

    chosen_more : IsChosen v w
    chosen_more = record {
      has_changed = changed;
      within = v ∷ rest.within;
      here = inl refl;
      each = λ x. ⊎_elim
          (λ e. (let g = rest.each u rest.here in
          (u, g.0 ∷ g.1, (inl e, subst (λ (y : RouterId). Contains (next_amid before after changed y) u) e first, kept (g.0 ∷ g.1) u g.2))))
          (λ i. (let g = rest.each x i in (g.0, g.1, kept (g.0 ∷ g.1) x g.2)));
    }

  chosen : (us : List RouterId) (v u w : RouterId) → Contains (next_in_either before after v) u → IsWalk (next_in_either before after) u us w → IsChosen v w
  chosen [] v u w c same = chosen_one v u w c same
  chosen (x ∷ us) v u w c p =
      let rest = chosen us u x w p.0 p.1 in
      ⊎_elim
      (λ i. record { has_changed = rest.has_changed; within = rest.within; here = i; each = rest.each })
      (λ fresh. chosen_more v u w c rest fresh)
      (member_or rest.within v)

  amid_either : (has_changed : RouterId → Bool) → HasSteps (next_amid before after has_changed) (next_in_either before after)
  amid_either has_changed v w c = by (has_changed v) c
    where
      by : (b : Bool) → Contains (cond b (next_in after v) (next_in before v)) w → Contains (next_in_either before after v) w
      by true r = Contains-append_right (next_in before v) (next_in after v) w r
      by false l = Contains-append_left (next_in before v) (next_in after v) w l

  pub may_loop : (v : RouterId) → IsOnCycle (next_in_either before after) v ↔ MayLoop before after v
  may_loop v = (
    λ cycle. (let f = chosen cycle.2.0 v cycle.0 v cycle.1 cycle.2.1 in
        let g = f.each v f.here in
        let next = next_amid before after f.has_changed in
        (f.has_changed, (g.0, g.2.1, (g.1, walk_of next f.within g.1 g.0 v g.2.2)))),
    λ may. goes_has (next_amid before after may.0) (next_in_either before after) (amid_either may.0) v v may.1,
  )

-- ---- equal graphs, and a change back

flip_either : (before after : List StepValue) → HasSteps (next_in_either before after) (next_in_either after before)
flip_either before after v w c = ⊎_elim
    (λ l. Contains-append_right (next_in after v) (next_in before v) w l)
    (λ r. Contains-append_left (next_in after v) (next_in before v) w r)
    (Contains-append_cases (next_in before v) (next_in after v) w c)

flip_routers : (before after : List StepValue) (v : RouterId) → Contains (routers_in_either before after) v → Contains (routers_in_either after before) v
flip_routers before after v c = ⊎_elim
    (λ l. Contains-append_right (routers_of after) (routers_of before) v l)
    (λ r. Contains-append_left (routers_of after) (routers_of before) v r)
    (Contains-append_cases (routers_of before) (routers_of after) v c)

pub changed_back : (before after : List StepValue) (loops : List (List RouterId)) → AreMicroloops before after loops → AreMicroloops after before loops
changed_back before after loops are =
    same_loops (next_in_either before after) (next_in_either after before) (flip_either before after) (flip_either after before)
    (routers_in_either before after) (routers_in_either after before) (flip_routers before after) (flip_routers after before) loops are

once : {X : Type 0} (xs : List X) (x : X) → Contains (xs ++ xs) x → Contains xs x
once xs x c = ⊎_elim (λ l. l) (λ r. r) (Contains-append_cases xs xs x c)

twice : {X : Type 0} (xs : List X) (x : X) → Contains xs x → Contains (xs ++ xs) x
twice xs x c = Contains-append_left xs xs x c

pub unchanged : (graph : List StepValue) (loops : List (List RouterId)) → AreMicroloops graph graph loops ↔ AreAllLoops (next_in graph) (routers_of graph) loops
unchanged graph loops = (
  λ are. same_loops (next_in_either graph graph) (next_in graph) (λ v w c. once (next_in graph v) w c) (λ v w c. twice (next_in graph v) w c)
      (routers_in_either graph graph) (routers_of graph) (λ v c. once (routers_of graph) v c) (λ v c. twice (routers_of graph) v c) loops are,
  λ are. same_loops (next_in graph) (next_in_either graph graph) (λ v w c. twice (next_in graph v) w c) (λ v w c. once (next_in graph v) w c)
      (routers_of graph) (routers_in_either graph graph) (λ v c. twice (routers_of graph) v c) (λ v c. once (routers_of graph) v c) loops are,
)
