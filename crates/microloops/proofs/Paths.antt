-- A router that is seen, and a step that leads to where all was followed.
use Rattle.std.proofs.Common.{◌≡◌, true, false, List, [], ◌∷◌, ◌++◌, Option, None, Some, refl, sym, ap, ◌∙◌, subst, ◌⊎◌, inl, inr, ⊎_elim}
use Rattle.std.specs.BTreeMap.{is_at}
use Rattle.std.specs.BTreeSet.{BTreeSet, Updates}
use Rattle.std.specs.Map.{keys_of, lookup}
use Rattle.std.specs.List.Sorted.{IsStrictlySortedBy}
use Rattle.std.specs.List.{Contains}
use Rattle.std.proofs.lemmas.Bool.{false≢true}
use Rattle.lsa_codec.specs.Order.{router_cmp}
use Rattle.lsa_codec.specs.declared.address.RouterId.{RouterId}
use Rattle.std.proofs.lemmas.List.Elements.{Contains-append_left, Contains-push, Contains-push_cases}
use Rattle.area_graph.proofs.MemberLemmas.{Some-same}
use Rattle.forwarding.specs.Walks.{Reaches}
use Rattle.microloops.specs.steps.Groups.{GroupValue, Has, Lacks, OnPath}
use Rattle.microloops.specs.steps.Searching.{ArePath, IsFollowed, IsGroup, IsNext, IsSearch, IsSettled, SearchValue, Sends, loop_at, with_last}
use Rattle.microloops.proofs.Sets.{fewer_has, has_fewer, has_more, has_new, lacks_all, lacks_from, lacks_new, more_has, not_both}
use Rattle.microloops.proofs.Walking.{reach_self, reach_step, reach_then}

module _ (next : RouterId → List RouterId) where
  -- ---- at first

  pub search_new : (s : SearchValue) → s.on_path.keys ≡ [] → s.path ≡ [] → s.loops ≡ [] → IsStrictlySortedBy router_cmp (keys_of s.loops)
      → ((v w : RouterId) → Contains (next v) w → Has s.unseen v) → IsSearch next None s
  search_new s none no_path no_loops ordered leads = record {
    path = subst (λ (gs : List GroupValue). ArePath next s.unseen None gs) (sym no_path) tt;
    on_path = λ v. (
      λ h. absurd (not_both s.on_path v (lacks_all s.on_path none v) h),
      λ o. absurd (subst (λ (gs : List GroupValue). OnPath gs v) no_path o),
    );
    closed = λ v w settled step. absurd (not_both s.unseen v settled.seen (leads v w step));
    ordered = ordered;
    each = λ v loop found. absurd (no_loop v loop found);
    all = λ v settled cycle. absurd (not_both s.unseen v settled.seen (leads v cycle.0 cycle.1));
  }
    where
      no_loop : (v : RouterId) (loop : List RouterId) → loop_at s.loops v ≡ Some loop → ⊥
      no_loop v loop found =
          let none : loop_at s.loops v ≡ None = ap (λ (es : List (RouterId × List RouterId)). lookup (is_at (router_cmp v)) es) no_loops in
          absurd (cc)

  -- ---- the routers of a path

  pub path_seen : (unseen : BTreeSet RouterId) (target : Option RouterId) (gs : List GroupValue) → ArePath next unseen target gs → (v : RouterId)
      → OnPath gs v → Lacks unseen v
  path_seen unseen target [] are v o = absurd o
  path_seen unseen target (g ∷ gs) are v (inl h) = are.0.seen v h
  path_seen unseen target (g ∷ gs) are v (inr o) = path_seen unseen target gs are.1 v o

  -- steps to a router that is on no path, or before all of it, were followed
  module _ (unseen : BTreeSet RouterId) (t : RouterId) (seen : Lacks unseen t) where
    pub followed : (gs : List GroupValue) → ArePath next unseen (Some t) gs → ¬ OnPath gs t → ArePath next unseen None gs
    followed [] are off = tt
    followed (g ∷ gs) are off = (
      record {
        joined = are.0.joined;
        led = are.0.led;
        sent = are.0.sent;
        rest = λ v w h step. ⊎_elim (λ p. inl p) (λ r. ⊎_elim (λ e. inr (inr (here w (Some-same e)))) (λ f. inr (inr f)) r) (are.0.rest v w h step);
        cycles = are.0.cycles;
        seen = are.0.seen;
        apart = are.0.apart;
      },
      followed gs are.1 (λ o. off (inr o)),
    )
      where
        here : (w : RouterId) → t ≡ w → IsFollowed next unseen g gs w
        here w e = subst (λ (x : RouterId). IsFollowed next unseen g gs x) e
            (record { seen = seen; onward = λ o. off (inr o); inside = λ h. absurd (off (inl h)) })

  -- a path with fewer routers that were not seen
  kept : (unseen fewer : BTreeSet RouterId) → ((v : RouterId) → Lacks unseen v → Lacks fewer v) → (target : Option RouterId) (gs : List GroupValue)
      → ArePath next unseen target gs → ArePath next fewer target gs
  kept unseen fewer still target [] are = tt
  kept unseen fewer still target (g ∷ gs) are = (
    record {
      joined = are.0.joined;
      led = are.0.led;
      sent = are.0.sent;
      rest = λ v w h step. ⊎_elim (λ p. inl p) (λ r. inr (⊎_elim (λ e. inl e)
          (λ f. inr (record { seen = still w f.seen; onward = f.onward; inside = f.inside })) r)) (are.0.rest v w h step);
      cycles = are.0.cycles;
      seen = λ v h. still v (are.0.seen v h);
      apart = are.0.apart;
    },
    kept unseen fewer still target gs are.1,
  )

  no_target : (w : RouterId) → None ≡ Some w → ⊥
  no_target w e = cc

  -- steps to a router are just being followed
  aimed : (unseen : BTreeSet RouterId) (t : RouterId) (gs : List GroupValue) → ArePath next unseen None gs → ArePath next unseen (Some t) gs
  aimed unseen t [] are = tt
  aimed unseen t (g ∷ gs) are = (
    record {
      joined = are.0.joined;
      led = are.0.led;
      sent = are.0.sent;
      rest = λ v w h step. ⊎_elim (λ p. inl p) (λ r. ⊎_elim (λ e. absurd (no_target w e)) (λ f. inr (inr f)) r) (are.0.rest v w h step);
      cycles = are.0.cycles;
      seen = are.0.seen;
      apart = are.0.apart;
    },
    aimed unseen t gs are.1,
  )

  pub skipped : (t : RouterId) (s : SearchValue) → IsSearch next (Some t) s → Lacks s.unseen t → Lacks s.on_path t → IsSearch next None s
  skipped t s is seen off = record {
    path = followed s.unseen t seen s.path is.path (λ o. not_both s.on_path t off ((is.on_path t).1 o));
    on_path = is.on_path;
    closed = is.closed;
    ordered = is.ordered;
    each = is.each;
    all = is.all;
  }

  -- ---- a step is taken

  module _ (s : SearchValue) (g last : GroupValue) (t : RouterId) (same : last.routers ≡ g.routers) (pending : g.pending ≡ last.pending ++ t ∷ [])
      (flag : last.is_loop ≡ g.is_loop) (is : IsSearch next None (with_last g s)) where
    there : (v : RouterId) → Has last.routers v → Has g.routers v
    there v h = subst (λ (rs : BTreeSet RouterId). Has rs v) same h

    back : (v : RouterId) → Has g.routers v → Has last.routers v
    back v h = subst (λ (rs : BTreeSet RouterId). Has rs v) (sym same) h

    was_pending : (w : RouterId) → Contains last.pending w ⊎ (t ≡ w) → Contains g.pending w
    was_pending w h = subst (λ (ps : List RouterId). Contains ps w) (sym pending) (⊎_elim
        (λ c. Contains-append_left last.pending (t ∷ []) w c)
        (λ e. subst (λ (x : RouterId). Contains (last.pending ++ t ∷ []) x) e (Contains-push last.pending t)) h)

    pending_or : (w : RouterId) → Contains g.pending w → Contains last.pending w ⊎ (t ≡ w)
    pending_or w c = Contains-push_cases last.pending t w (subst (λ (ps : List RouterId). Contains ps w) pending c)

    taken : IsGroup next s.unseen None g s.path → IsGroup next s.unseen (Some t) last s.path
    taken was = record {
      joined = λ v w h k. was.joined v w (there v h) (there w k);
      led = λ v w o h. was.led v w o (there w h);
      sent = λ w c. (let f = was.sent w (was_pending w (inl c)) in (f.0, back f.0 f.1, f.2));
      rest = λ v w h step. ⊎_elim
          (λ p. ⊎_elim (λ l. inl l) (λ e. inr (inl (ap (λ (x : RouterId). Some x) e))) (pending_or w p))
          (λ r. ⊎_elim (λ e. absurd (no_target w e))
          (λ f. inr (inr (record { seen = f.seen; onward = f.onward; inside = λ k. flag ∙ f.inside (there w k) }))) r)
          (was.rest v w (there v h) step);
      cycles = λ l v h. was.cycles (sym flag ∙ l) v (there v h);
      seen = λ v h. was.seen v (there v h);
      apart = λ v h. was.apart v (there v h);
    }

    pub stepped : IsSearch next (Some t) (with_last last s)
    stepped = record {
      path = (taken is.path.0, aimed s.unseen t s.path is.path.1);
      on_path = λ v. (
        λ h. ⊎_elim (λ k. inl (back v k)) (λ o. inr o) ((is.on_path v).0 h),
        λ o. (is.on_path v).1 (⊎_elim (λ k. inl (there v k)) (λ p. inr p) o),
      );
      closed = is.closed;
      ordered = is.ordered;
      each = is.each;
      all = is.all;
    }

    pub sends : Sends next last t
    sends = let f = is.path.0.sent t (was_pending t (inr refl)) in (f.0, back f.0 f.1, f.2)

  -- the router that it leads to was not seen
  pub next_found : (s : SearchValue) (last : GroupValue) (t : RouterId) → IsSearch next (Some t) (with_last last s) → Sends next last t
      → Has s.unseen t → IsNext next t (with_last last s)
  next_found s last t is sent unseen = record {
    unseen = unseen;
    led = λ v o. reach_then next v sent.0 t (to_sender v o) (reach_step next sent.0 t t sent.2 (reach_self next t));
    search = is;
  }
    where
      to_sender : (v : RouterId) → OnPath (last ∷ s.path) v → Reaches next v sent.0
      to_sender v (inl h) = is.path.0.joined v sent.0 h sent.1
      to_sender v (inr o) = is.path.0.led v sent.0 o sent.1

  -- where nothing is on the path, any router is the next
  pub next_any : (s : SearchValue) (t : RouterId) → IsSearch next None s → s.path ≡ [] → Has s.unseen t → IsNext next t s
  next_any s t is empty unseen = record {
    unseen = unseen;
    led = λ v o. absurd (subst (λ (gs : List GroupValue). OnPath gs v) empty o);
    search = record {
      path = subst (λ (gs : List GroupValue). ArePath next s.unseen (Some t) gs) (sym empty) tt;
      on_path = is.on_path;
      closed = is.closed;
      ordered = is.ordered;
      each = is.each;
      all = is.all;
    };
  }

  -- ---- a router is seen

  module _ (s : SearchValue) (t : RouterId) (unseen on_path : BTreeSet RouterId) (g : GroupValue) (fewer : Updates router_cmp s.unseen unseen t false)
      (more : Updates router_cmp s.on_path on_path t true) (only : (v : RouterId) → Has g.routers v → t ≡ v) (has : Has g.routers t)
      (pending : g.pending ≡ next t) (flag : g.is_loop ≡ false) (is : IsNext next t s) where
    abbrev begun : SearchValue
    begun = record { unseen = unseen; on_path = on_path; path = g ∷ s.path; loops = s.loops }

    still : (v : RouterId) → Lacks s.unseen v → Lacks unseen v
    still v l = lacks_from unseen v (λ h. not_both s.unseen v l (fewer_has s.unseen unseen t fewer v h))

    other : (v : RouterId) → Lacks s.unseen v → t ≡ v → ⊥
    other v l e = not_both s.unseen v l (subst (λ (x : RouterId). Has s.unseen x) e is.unseen)

    off : ¬ OnPath s.path t
    off o = not_both s.unseen t (path_seen s.unseen (Some t) s.path is.search.path t o) is.unseen

    alone : IsGroup next unseen None g s.path
    alone = record {
      joined = λ v w h k. subst (λ (x : RouterId). Reaches next x w) (only v h) (subst (λ (x : RouterId). Reaches next t x) (only w k) (reach_self next t));
      led = λ v w o h. subst (λ (x : RouterId). Reaches next v x) (only w h) (is.led v o);
      sent = λ w c. (t, has, subst (λ (ps : List RouterId). Contains ps w) pending c);
      rest = λ v w h step. inl (subst (λ (ps : List RouterId). Contains ps w) (sym pending)
          (subst (λ (x : RouterId). Contains (next x) w) (sym (only v h)) step));
      cycles = λ l v h. absurd (false≢true (sym flag ∙ l));
      seen = λ v h. subst (λ (x : RouterId). Lacks unseen x) (only v h) (lacks_new s.unseen unseen t fewer);
      apart = λ v h o. off (subst (λ (x : RouterId). OnPath s.path x) (sym (only v h)) o);
    }

    before : (v : RouterId) → IsSettled unseen on_path v → IsSettled s.unseen s.on_path v
    before v settled = record {
      seen = lacks_from s.unseen v (λ h. ⊎_elim
          (λ n. not_both unseen v settled.seen n)
          (λ e. not_both on_path v settled.off_path (subst (λ (x : RouterId). Has on_path x) e (has_new s.on_path on_path t more)))
          (has_fewer s.unseen unseen t fewer v h));
      off_path = lacks_from s.on_path v (λ h. not_both on_path v settled.off_path (has_more s.on_path on_path t more v h));
    }

    after : (w : RouterId) → IsSettled s.unseen s.on_path w → IsSettled unseen on_path w
    after w settled = record {
      seen = still w settled.seen;
      off_path = lacks_from on_path w (λ h. ⊎_elim
          (λ old. not_both s.on_path w settled.off_path old)
          (λ e. other w settled.seen e)
          (more_has s.on_path on_path t more w h));
    }

    pub search_begun : IsSearch next None begun
    search_begun = record {
      path = (alone, followed unseen t (lacks_new s.unseen unseen t fewer) s.path (kept s.unseen unseen still (Some t) s.path is.search.path) off);
      on_path = λ v. (
        λ h. ⊎_elim (λ old. inr ((is.search.on_path v).0 old)) (λ e. inl (subst (λ (x : RouterId). Has g.routers x) e has))
            (more_has s.on_path on_path t more v h),
        λ o. ⊎_elim (λ h. subst (λ (x : RouterId). Has on_path x) (only v h) (has_new s.on_path on_path t more))
            (λ p. has_more s.on_path on_path t more v ((is.search.on_path v).1 p)) o,
      );
      closed = λ v w settled step. after w (is.search.closed v w (before v settled) step);
      ordered = is.search.ordered;
      each = is.search.each;
      all = λ v settled cycle. is.search.all v (before v settled) cycle;
    }
