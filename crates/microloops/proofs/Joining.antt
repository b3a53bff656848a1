-- Groups of a path that a step from the last one makes one loop.
use Rattle.std.proofs.Common.{◌≡◌, ℕ, ◌+◌, ◌≤◌, true, List, [], ◌∷◌, length, None, Some, refl, sym, subst, arith, ◌⊎◌, inl, inr, ⊎_elim}
use Rattle.std.specs.BTreeSet.{BTreeSet}
use Rattle.std.specs.List.{Contains}
use Rattle.lsa_codec.specs.declared.address.RouterId.{RouterId}
use Rattle.area_graph.proofs.MemberLemmas.{Some-same}
use Rattle.forwarding.specs.Walks.{Goes, IsOnCycle, Reaches}
use Rattle.microloops.specs.steps.Groups.{GroupValue, Has, IsJoined, Lacks, OnPath, work}
use Rattle.microloops.specs.steps.Searching.{ArePath, IsFollowed, IsGroup, IsSearch, SearchValue, Sends, with_last}
use Rattle.microloops.proofs.Paths.{followed}
use Rattle.microloops.proofs.Sets.{from_either, not_both, to_left, to_right}
use Rattle.microloops.proofs.Walking.{goes_reaches, goes_then, then_goes, reach_then}

module _ (next : RouterId → List RouterId) (t : RouterId) where
  -- ---- the last two groups

  module _ (unseen : BTreeSet RouterId) (a b c : GroupValue) (gs : List GroupValue) (is : IsJoined a b c) (last : IsGroup next unseen (Some t) a (b ∷ gs))
      (below : IsGroup next unseen (Some t) b gs) (sent : Sends next a t) (on : OnPath (b ∷ gs) t) where
    -- the router that sends reaches that below
    goes_to : (v : RouterId) → Has b.routers v → OnPath (b ∷ gs) t → Goes next sent.0 v
    goes_to v h (inl k) = (t, sent.2, below.joined t v k h)
    goes_to v h (inr o) = (t, sent.2, below.led t v o h)

    up : (v w : RouterId) → Has b.routers v → Has a.routers w → Reaches next v w
    up v w h k = last.led v w (inl h) k

    down : (v w : RouterId) → Has a.routers v → Has b.routers w → Reaches next v w
    down v w h k = reach_then next v sent.0 w (last.joined v sent.0 h sent.1) (goes_reaches next sent.0 w (goes_to w k on))

    cases : (v : RouterId) → Has c.routers v → Has a.routers v ⊎ Has b.routers v
    cases v h = from_either a.routers b.routers c.routers v (is.routers v) h

    in_left : (v : RouterId) → Has a.routers v → Has c.routers v
    in_left v h = to_left a.routers b.routers c.routers v (is.routers v) h

    in_right : (v : RouterId) → Has b.routers v → Has c.routers v
    in_right v h = to_right a.routers b.routers c.routers v (is.routers v) h

    rest_left : (w : RouterId) → Contains a.pending w ⊎ ((Some t ≡ Some w) ⊎ IsFollowed next unseen a (b ∷ gs) w)
        → Contains c.pending w ⊎ ((Some t ≡ Some w) ⊎ IsFollowed next unseen c gs w)
    rest_left w (inl p) = inl (is.left w p)
    rest_left w (inr (inl e)) = inr (inl e)
    rest_left w (inr (inr f)) = inr (inr (record { seen = f.seen; onward = λ o. f.onward (inr o); inside = λ h. is.is_loop }))

    rest_right : (w : RouterId) → Contains b.pending w ⊎ ((Some t ≡ Some w) ⊎ IsFollowed next unseen b gs w)
        → Contains c.pending w ⊎ ((Some t ≡ Some w) ⊎ IsFollowed next unseen c gs w)
    rest_right w (inl p) = inl (is.right w p)
    rest_right w (inr (inl e)) = inr (inl e)
    rest_right w (inr (inr f)) = inr (inr (record { seen = f.seen; onward = f.onward; inside = λ h. is.is_loop }))

    cycle_left : (v : RouterId) → Has a.routers v → IsOnCycle next v
    cycle_left v h = goes_then next v t v (then_goes next v sent.0 t (last.joined v sent.0 h sent.1) (t, sent.2, ([], refl))) (last.led t v on h)

    cycle_right : (v : RouterId) → Has b.routers v → IsOnCycle next v
    cycle_right v h = then_goes next v sent.0 v (up v sent.0 h sent.1) (goes_to v h on)

    group_joined : IsGroup next unseen (Some t) c gs
    group_joined = record {
      joined = λ v w h k. ⊎_elim
          (λ x. ⊎_elim (λ y. last.joined v w x y) (λ y. down v w x y) (cases w k))
          (λ x. ⊎_elim (λ y. up v w x y) (λ y. below.joined v w x y) (cases w k))
          (cases v h);
      led = λ v w o h. ⊎_elim (λ x. last.led v w (inr o) x) (λ x. below.led v w o x) (cases w h);
      sent = λ w p. ⊎_elim
          (λ x. (let f = last.sent w x in (f.0, in_left f.0 f.1, f.2)))
          (λ x. (let f = below.sent w x in (f.0, in_right f.0 f.1, f.2)))
          (is.from_pending w p);
      rest = λ v w h step. ⊎_elim (λ x. rest_left w (last.rest v w x step)) (λ x. rest_right w (below.rest v w x step)) (cases v h);
      cycles = λ l v h. ⊎_elim (λ x. cycle_left v x) (λ x. cycle_right v x) (cases v h);
      seen = λ v h. ⊎_elim (λ x. last.seen v x) (λ x. below.seen v x) (cases v h);
      apart = λ v h o. ⊎_elim (λ x. last.apart v x (inr o)) (λ x. below.apart v x o) (cases v h);
    }

    sends_joined : Sends next c t
    sends_joined = (sent.0, in_left sent.0 sent.1, sent.2)

    on_joined : OnPath (b ∷ gs) t → OnPath (c ∷ gs) t
    on_joined (inl h) = inl (in_right t h)
    on_joined (inr o) = inr o

  -- ---- the search

  -- a group at the end of the path that sends to a router of the path
  pub record IsClosing (last : GroupValue) (s : SearchValue) : Type 0 where
    pub search : IsSearch next (Some t) (with_last last s)
    pub sends : Sends next last t
    pub on : OnPath (last ∷ s.path) t

  abbrev with_path : SearchValue → List GroupValue → SearchValue
  with_path s gs = record { unseen = s.unseen; on_path = s.on_path; path = gs; loops = s.loops }

  pub closing_first : (last : GroupValue) (s : SearchValue) → IsSearch next (Some t) (with_last last s) → Sends next last t → Has s.on_path t → IsClosing last s
  closing_first last s is sent has = record { search = is; sends = sent; on = (is.on_path t).0 has }

  module _ (a b c : GroupValue) (gs : List GroupValue) (s : SearchValue) (path : s.path ≡ b ∷ gs) (closing : IsClosing a s) (lacks : Lacks a.routers t)
      (is : IsJoined a b c) where
    parts : ArePath next s.unseen (Some t) (a ∷ (b ∷ gs))
    parts = subst (λ (ps : List GroupValue). ArePath next s.unseen (Some t) (a ∷ ps)) path closing.search.path

    on_below : OnPath (a ∷ s.path) t → OnPath (b ∷ gs) t
    on_below (inl h) = absurd (not_both a.routers t lacks h)
    on_below (inr o) = subst (λ (ps : List GroupValue). OnPath ps t) path o

    before : (v : RouterId) → OnPath (a ∷ (b ∷ gs)) v → Has s.on_path v
    before v o = (closing.search.on_path v).1 (subst (λ (ps : List GroupValue). OnPath (a ∷ ps) v) (sym path) o)

    after : (v : RouterId) → OnPath (a ∷ (b ∷ gs)) v → OnPath (c ∷ gs) v
    after v (inl h) = inl (to_left a.routers b.routers c.routers v (is.routers v) h)
    after v (inr (inl h)) = inl (to_right a.routers b.routers c.routers v (is.routers v) h)
    after v (inr (inr o)) = inr o

    pub closing_more : IsClosing c (with_path s gs)
    closing_more = record {
      search = record {
        path = (group_joined s.unseen a b c gs is parts.0 parts.1.0 closing.sends (on_below closing.on), parts.1.1);
        on_path = λ v. (
          λ h. after v (subst (λ (ps : List GroupValue). OnPath (a ∷ ps) v) path ((closing.search.on_path v).0 h)),
          λ o. ⊎_elim
              (λ h. ⊎_elim (λ x. before v (inl x)) (λ x. before v (inr (inl x))) (from_either a.routers b.routers c.routers v (is.routers v) h))
              (λ p. before v (inr (inr p))) o,
        );
        closed = closing.search.closed;
        ordered = closing.search.ordered;
        each = closing.search.each;
        all = closing.search.all;
      };
      sends = sends_joined s.unseen a b c gs is parts.0 parts.1.0 closing.sends (on_below closing.on);
      on = on_joined s.unseen a b c gs is parts.0 parts.1.0 closing.sends (on_below closing.on) (on_below closing.on);
    }

  -- all groups from that of the router on are one, which is a loop
  module _ (a last : GroupValue) (s : SearchValue) (same : last.routers ≡ a.routers) (pending : last.pending ≡ a.pending) (flag : last.is_loop ≡ true)
      (closing : IsClosing a s) (has : Has a.routers t) where
    there : (v : RouterId) → Has last.routers v → Has a.routers v
    there v h = subst (λ (rs : BTreeSet RouterId). Has rs v) same h

    back : (v : RouterId) → Has a.routers v → Has last.routers v
    back v h = subst (λ (rs : BTreeSet RouterId). Has rs v) (sym same) h

    abbrev group : IsGroup next s.unseen (Some t) a s.path
    group = closing.search.path.0

    inner : (w : RouterId) → Contains a.pending w ⊎ ((Some t ≡ Some w) ⊎ IsFollowed next s.unseen a s.path w)
        → Contains last.pending w ⊎ ((None ≡ Some w) ⊎ IsFollowed next s.unseen last s.path w)
    inner w (inl p) = inl (subst (λ (ps : List RouterId). Contains ps w) (sym pending) p)
    inner w (inr (inl e)) =
        inr (inr (subst (λ (x : RouterId). IsFollowed next s.unseen last s.path x) (Some-same e)
        (record { seen = group.seen t has; onward = group.apart t has; inside = λ h. flag })))
    inner w (inr (inr f)) = inr (inr (record { seen = f.seen; onward = f.onward; inside = λ h. flag }))

    cycle : (v : RouterId) → Has a.routers v → IsOnCycle next v
    cycle v h =
        goes_then next v t v
        (then_goes next v closing.sends.0 t (group.joined v closing.sends.0 h closing.sends.1) (t, closing.sends.2, ([], refl)))
        (group.joined t v has h)

    pub closed_up : IsSearch next None (with_last last s)
    closed_up = record {
      path = (
        record {
          joined = λ v w h k. group.joined v w (there v h) (there w k);
          led = λ v w o h. group.led v w o (there w h);
          sent = λ w p. (let f = group.sent w (subst (λ (ps : List RouterId). Contains ps w) pending p) in (f.0, back f.0 f.1, f.2));
          rest = λ v w h step. inner w (group.rest v w (there v h) step);
          cycles = λ l v h. cycle v (there v h);
          seen = λ v h. group.seen v (there v h);
          apart = λ v h. group.apart v (there v h);
        },
        followed next s.unseen t (group.seen t has) s.path closing.search.path.1 (group.apart t has),
      );
      on_path = λ v. (
        λ h. ⊎_elim (λ k. inl (back v k)) (λ o. inr o) ((closing.search.on_path v).0 h),
        λ o. (closing.search.on_path v).1 (⊎_elim (λ k. inl (there v k)) (λ p. inr p) o),
      );
      closed = closing.search.closed;
      ordered = closing.search.ordered;
      each = closing.search.each;
      all = closing.search.all;
    }

  -- ---- the loop of the search

  -- the path does not end before the group of the router
  pub not_ended : (a : GroupValue) (s : SearchValue) → s.path ≡ [] → IsClosing a s → Lacks a.routers t → ⊥
  not_ended a s path closing lacks = by (subst (λ (gs : List GroupValue). OnPath (a ∷ gs) t) path closing.on)
    where
      by : OnPath (a ∷ []) t → ⊥
      by (inl h) = not_both a.routers t lacks h
      by (inr o) = o

-- joining makes no work
pub less_more : (a b c : GroupValue) (gs path : List GroupValue) (n : ℕ) → path ≡ b ∷ gs → IsJoined a b c → work (a ∷ path) ≤ n → work (c ∷ gs) ≤ n
less_more a b c gs path n same is less =
    let count : length c.pending ≡ length a.pending + length b.pending = is.count in
    let before : work (a ∷ (b ∷ gs)) ≤ n = subst (λ (ps : List GroupValue). work (a ∷ ps) ≤ n) same less in
    omega arith
