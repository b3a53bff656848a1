-- A group from which all steps were followed.
use Rattle.std.proofs.Common.{◌≡◌, Bool, true, false, cond, List, [], ◌∷◌, Option, None, Some}
use Rattle.std.proofs.Common.{refl, sym, ap, ◌∙◌, subst, ◌<◌, length, arith, ◌⊎◌, inl, inr, ⊎_elim}
use Rattle.std.specs.BTreeMap.{is_at}
use Rattle.std.specs.List.Sorted.{IsStrictlySortedBy}
use Rattle.std.specs.Map.{keys_of}
use Rattle.std.specs.BTreeSet.{BTreeSet, contains}
use Rattle.std.specs.Option.{option_map}
use Rattle.std.specs.Prelude.{◌&&◌, ◌↔◌, IfSome, IsSome, not}
use Rattle.std.specs.List.{AllPairs, Contains, slice_get}
use Rattle.std.proofs.lemmas.Bool.{and_from, and_parts, false≢true}
use Rattle.lsa_codec.specs.Order.{router_cmp}
use Rattle.lsa_codec.specs.declared.address.RouterId.{RouterId}
use Rattle.area_graph.proofs.MemberLemmas.{Contains-from_In, In-from_Contains, Some-same}
use Rattle.forwarding.specs.Walks.{IsLess, IsLoopFrom, IsLoopOf, IsOnCycle, Reaches}
use Rattle.microloops.specs.steps.Groups.{GroupValue, Has, Lacks, OnPath}
use Rattle.microloops.specs.steps.Searching.{IsFollowed, IsFound, IsGroup, IsSearch, IsSettled, SearchValue, loop_at, with_last}
use Rattle.microloops.proofs.Paths.{next_any}
use Rattle.microloops.proofs.Sets.{at_same, at_self, has_member, has_or, lacks_all, lacks_from, member_has, not_both}
use Rattle.microloops.proofs.Walking.{goes_reaches, goes_then, stays}

pub head_in : (ks : List RouterId) (k : RouterId) → slice_get ks 0 ≡ Some k → Contains ks k
head_in [] k at = absurd (cc)
head_in (x ∷ xs) k at = Contains-from_In (x ∷ xs) k (inl (Some-same at))

pub no_head : (ks : List RouterId) → slice_get ks 0 ≡ None → ks ≡ []
no_head [] at = refl
no_head (x ∷ xs) at = absurd (cc)

no_target : (w : RouterId) → None ≡ Some w → ⊥
no_target w e = cc

module _ (next : RouterId → List RouterId) (s : SearchValue) (last : GroupValue) (on_path : BTreeSet RouterId) (empty : last.pending ≡ [])
    (removed : (v : RouterId) → contains router_cmp on_path v ≡ (contains router_cmp s.on_path v && not (contains router_cmp last.routers v))) (is : IsSearch next None (with_last last s)) where
  abbrev group : IsGroup next s.unseen None last s.path
  group = is.path.0

  left : (v : RouterId) → Has on_path v → Has s.on_path v
  left v h = (and_parts (contains router_cmp s.on_path v) (not (contains router_cmp last.routers v)) (sym (removed v) ∙ h)).0

  out : (v : RouterId) → Has on_path v → Lacks last.routers v
  out v h = by (contains router_cmp last.routers v) (and_parts (contains router_cmp s.on_path v) (not (contains router_cmp last.routers v)) (sym (removed v) ∙ h)).1
    where
      by : (b : Bool) → not b ≡ true → b ≡ false
      by true e = sym e
      by false e = refl

  others : (v : RouterId) → Has s.on_path v → Lacks last.routers v → Has on_path v
  others v h l = removed v ∙ and_from (contains router_cmp s.on_path v) (not (contains router_cmp last.routers v)) h (ap not l)

  abbrev Before : RouterId → Type 0
  Before v = IsSettled s.unseen s.on_path v

  abbrev After : RouterId → Type 0
  After v = IsSettled s.unseen on_path v

  step_from : (v w : RouterId) → Has last.routers v → Contains (next v) w → IsFollowed next s.unseen last s.path w
  step_from v w h step =
      ⊎_elim (λ p. absurd (In-from_Contains [] w (subst (λ (ps : List RouterId). Contains ps w) empty p)))
      (λ r. ⊎_elim (λ e. absurd (no_target w e)) (λ f. f) r) (group.rest v w h step)

  path_from : (v : RouterId) → Has on_path v → OnPath s.path v
  path_from v h = ⊎_elim (λ k. absurd (not_both last.routers v (out v h) k)) (λ o. o) ((is.on_path v).0 (left v h))

  to_path : (v : RouterId) → OnPath s.path v → Has on_path v
  to_path v o = others v ((is.on_path v).1 (inr o)) (lacks_from last.routers v (λ k. group.apart v k o))

  settled_or : (v : RouterId) → After v → Has last.routers v ⊎ Before v
  settled_or v settled =
      ⊎_elim (λ k. inl k)
      (λ l. inr (record { seen = settled.seen; off_path = lacks_from s.on_path v (λ h. not_both on_path v settled.off_path (others v h l)) }))
      (has_or last.routers v)

  settled_after : (w : RouterId) → Before w → After w
  settled_after w settled = record { seen = settled.seen; off_path = lacks_from on_path w (λ h. not_both s.on_path w settled.off_path (left w h)) }

  settled_step : (w : RouterId) → IsFollowed next s.unseen last s.path w → After w
  settled_step w f = record { seen = f.seen; off_path = lacks_from on_path w (λ h. f.onward (path_from w h)) }

  settled_here : (v : RouterId) → Has last.routers v → After v
  settled_here v h = record { seen = group.seen v h; off_path = lacks_from on_path v (λ k. not_both last.routers v (out v k) h) }

  closed_after : (v w : RouterId) → After v → Contains (next v) w → After w
  closed_after v w settled step =
      ⊎_elim (λ h. settled_step w (step_from v w h step)) (λ old. settled_after w (is.closed v w old step)) (settled_or v settled)

  -- the group was not settled before
  was_open : (v : RouterId) → Has last.routers v → Before v → ⊥
  was_open v h settled = not_both s.on_path v settled.off_path ((is.on_path v).1 (inl h))

  before_stays : (v w : RouterId) → Reaches next v w → Before v → Before w
  before_stays v w r settled = stays next Before is.closed v w r settled

  -- walks that come back to the group do not leave it
  comes_back : (v w : RouterId) → Has last.routers v → Reaches next v w → Reaches next w v → Has last.routers w
  comes_back v w h r q =
      ⊎_elim (λ k. k) (λ settled. absurd (was_open v h (before_stays w v q settled)))
      (settled_or w (stays next After closed_after v w r (settled_here v h)))

  -- ---- no walk comes back to the group

  module _ (none : (v : RouterId) → Has last.routers v → ¬ IsOnCycle next v) where
    pub settled_alone : IsSearch next None (record { unseen = s.unseen; on_path = on_path; path = s.path; loops = s.loops })
    settled_alone = record {
      path = is.path.1;
      on_path = λ v. (path_from v, to_path v);
      closed = closed_after;
      ordered = is.ordered;
      each = is.each;
      all = λ v settled cycle. ⊎_elim (λ h. absurd (none v h cycle)) (λ old. is.all v old cycle) (settled_or v settled);
    }

  pub no_cycle : last.is_loop ≡ false → (v : RouterId) → Has last.routers v → ¬ IsOnCycle next v
  no_cycle flag v h cycle =
      let f = step_from v cycle.0 h cycle.1 in
      ⊎_elim (λ k. false≢true (sym flag ∙ f.inside k)) (λ old. was_open v h (before_stays cycle.0 v cycle.2 old))
      (settled_or cycle.0 (settled_step cycle.0 f))

  pub no_routers : last.routers.keys ≡ [] → (v : RouterId) → Has last.routers v → ¬ IsOnCycle next v
  no_routers none v h cycle = not_both last.routers v (lacks_all last.routers none v) h

  -- ---- the group is a loop

  module _ (flag : last.is_loop ≡ true) (least : RouterId) (first : slice_get last.routers.keys 0 ≡ Some least) (order : AllPairs IsLess last.routers.keys)
      (loops : List (RouterId × List RouterId)) (ordered : IsStrictlySortedBy router_cmp (keys_of loops))
      (is_new : (v : RouterId) → loop_at loops v ≡ cond (is_at (router_cmp least) v) (Some last.routers.keys) (loop_at s.loops v)) where
    abbrev keys : List RouterId
    keys = last.routers.keys

    loop_of : (v : RouterId) → Has last.routers v → IsLoopOf next v keys
    loop_of v h = record {
      members = λ w. (
        λ c. (let k = has_member last.routers w c in (
          goes_then next v v w (group.cycles flag v h) (group.joined v w h k),
          goes_then next w w v (group.cycles flag w k) (group.joined w v k h),
        )),
        λ g. member_has last.routers w (comes_back v w h (goes_reaches next v w g.0) (goes_reaches next w v g.1)),
      );
      order = order;
    }

    has_least : Has last.routers least
    has_least = has_member last.routers least (head_in keys least first)

    found_each : (v : RouterId) (loop : List RouterId) → loop_at loops v ≡ Some loop → IsLoopFrom next v loop
    found_each v loop e = by (is_at (router_cmp least) v) refl (sym (is_new v) ∙ e)
      where
        by : (b : Bool) → is_at (router_cmp least) v ≡ b → cond b (Some keys) (loop_at s.loops v) ≡ Some loop → IsLoopFrom next v loop
        by true at same =
            subst (λ (ks : List RouterId). IsLoopFrom next v ks) (Some-same same)
            (subst (λ (x : RouterId). IsLoopFrom next x keys) (at_same least v at) (record { loop_of = loop_of least has_least; least = first }))
        by false at same = is.each v loop same

    newest : loop_at loops least ≡ Some keys
    newest = is_new least ∙ ap (λ (b : Bool). cond b (Some keys) (loop_at s.loops least)) (at_self least)

    abbrev Found : RouterId → Type 0
    Found v = (k : RouterId) × (loop : List RouterId) × (loop_at loops k ≡ Some loop) × Contains loop v

    -- the loop of a router that was settled before
    old_found : (v k : RouterId) (loop : List RouterId) → Before v → loop_at s.loops k ≡ Some loop → Contains loop v → Found v
    old_found v k loop settled e c = by (is_at (router_cmp least) k) refl (is_new k)
      where
        by : (b : Bool) → is_at (router_cmp least) k ≡ b → loop_at loops k ≡ cond b (Some keys) (loop_at s.loops k) → Found v
        by true at now =
            let g = ((is.each k loop e).loop_of.members v).0 c in
            absurd (was_open least has_least (subst (λ (x : RouterId). Before x) (sym (at_same least k at)) (before_stays v k (goes_reaches next v k g.1) settled)))
        by false at now = (k, loop, now ∙ e, c)

    pub settled_loop : IsSearch next None (record { unseen = s.unseen; on_path = on_path; path = s.path; loops = loops })
    settled_loop = record {
      path = is.path.1;
      on_path = λ v. (path_from v, to_path v);
      closed = closed_after;
      ordered = ordered;
      each = found_each;
      all = λ v settled cycle. ⊎_elim
          (λ h. (least, keys, newest, member_has last.routers v h))
          (λ old. (let f = is.all v old cycle in old_found v f.0 f.1 old f.2 f.3))
          (settled_or v settled);
    }

-- ---- what is left at the end of the path

-- the first router of a set
pub first_is : {B : Type 0} (now : B → RouterId) (o : Option B) (ks : List RouterId) → (IsSome o ↔ (0 < length ks))
    → IfSome o (λ k. slice_get ks 0 ≡ Some (now k)) → option_map now o ≡ slice_get ks 0
first_is now None [] variant first = refl
first_is now None (x ∷ xs) variant first = absurd (false≢true (variant.1 (omega arith)))
first_is now (Some k) ks variant first = sym first

module _ (next : RouterId → List RouterId) (s : SearchValue) (is : IsSearch next None s) (ended : s.path ≡ []) where
  pub first_found : (o : Option RouterId) → o ≡ slice_get s.unseen.keys 0 → IsFound next o s
  first_found None first = record { search = is; all_seen = lacks_all s.unseen (no_head s.unseen.keys (sym first)); no_path = ended }
  first_found (Some k) first = next_any next s k is ended (has_member s.unseen k (head_in s.unseen.keys k (sym first)))
