-- The loops of all routers, in order of their least ones.
use Rattle.std.proofs.Common.{◌≡◌, List, [], ◌∷◌, get_or, Some, refl, sym, ap, ◌∙◌, subst, arith, inl, inr}
use Rattle.std.specs.Cmp.{nat_cmp_is}
use Rattle.std.specs.List.{AllPairs, Contains, slice_get}
use Rattle.std.specs.List.Sorted.{IsStrictlySortedBy}
use Rattle.std.specs.Map.{keys_of, values_of}
use Rattle.std.specs.Ordering.{eq_by_cmp}
use Rattle.std.specs.declared.cmp.Ordering.TheVariants.{Less}
use Rattle.std.proofs.lemmas.Cmp.{eq_by_cmp_equiv, ranked}
use Rattle.std.proofs.lemmas.List.Elements.{All-contains, All-contains_itself, All-weaker}
use Rattle.std.proofs.lemmas.List.Kept.{AllPairs-cons}
use Rattle.std.proofs.lemmas.Map.Keys.{IsDistinct-from_sorted, sorted_tail}
use Rattle.std.proofs.lemmas.Map.Views.{All-after_first, Contains-from_lookup, lookup-from_Contains}
use Rattle.lsa_codec.specs.Order.{router_cmp}
use Rattle.lsa_codec.specs.declared.address.RouterId.{RouterId}
use Rattle.lsa_codec.proofs.OrderLemmas.{router_exact, router_total}
use Rattle.area_graph.proofs.MemberLemmas.{Contains-from_In, In, In-from_Contains, In-map, Some-same, map-In}
use Rattle.area_graph.proofs.RisingLemmas.{rising-is}
use Rattle.forwarding.specs.Walks.{IsLess, IsLoopFrom, IsLoopOf, IsOnCycle, StartsBefore}
use Rattle.microloops.specs.Changeover.{AreAllLoops, AreOnLoops}
use Rattle.microloops.specs.steps.Groups.{OnPath, GroupValue}
use Rattle.microloops.specs.steps.Searching.{IsDone, IsSettled, SearchValue, loop_at}
use Rattle.microloops.proofs.Sets.{at_same, lacks_from}
use Rattle.microloops.proofs.Settling.{head_in}
use Rattle.microloops.proofs.Walking.{goes_reaches, goes_then}

-- ---- lists in order

no_pairs : {X : Type 0} (R : X → X → Type 0) → AllPairs R []
no_pairs R = λ i j d lt within. absurd (omega arith)

less_from : (a b : RouterId) → router_cmp a b ≡ Less → IsLess a b
less_from a b h = ranked a.0 b.0 Less (sym h)

pub sorted_less : (ks : List RouterId) → IsStrictlySortedBy router_cmp ks → AllPairs IsLess ks
sorted_less [] s = no_pairs IsLess
sorted_less (k ∷ ks) s =
    AllPairs-cons IsLess k ks (All-weaker (λ x. router_cmp k x ≡ Less) (IsLess k) (λ x h. less_from k x h) ks (All-after_first router_cmp k ks s))
    (sorted_less ks (sorted_tail router_cmp k ks s))

module _ (next : RouterId → List RouterId) where
  abbrev Entry : Type 0
  Entry = RouterId × List RouterId

  begins : (es : List Entry) → ((k : RouterId) (loop : List RouterId) → In es (k, loop) → slice_get loop 0 ≡ Some k)
      → IsStrictlySortedBy router_cmp (keys_of es) → AllPairs (StartsBefore next) (values_of es)
  begins [] first s = no_pairs (StartsBefore next)
  begins (e ∷ es) first s =
      AllPairs-cons (StartsBefore next) e.1 (values_of es)
      (All-weaker (Contains (values_of es)) (StartsBefore next e.1) after (values_of es) (All-contains_itself (values_of es)))
      (begins es (λ k loop i. first k loop (inr i)) (sorted_tail router_cmp e.0 (keys_of es) s))
    where
      after : (loop : List RouterId) → Contains (values_of es) loop → StartsBefore next e.1 loop
      after loop c v w at_v at_w =
          let f = map-In (λ (x : Entry). x.1) es loop (In-from_Contains (values_of es) loop c) in
          let one : v ≡ e.0 = Some-same (sym at_v ∙ first e.0 e.1 (inl refl)) in
          let two : w ≡ f.0.0 = Some-same (sym at_w ∙ sym (ap (λ (l : List RouterId). slice_get l 0) f.2) ∙ first f.0.0 f.0.1 (inr f.1)) in
          let less : router_cmp e.0 f.0.0 ≡ Less =
          All-contains (λ x. router_cmp e.0 x ≡ Less) (keys_of es) f.0.0 (All-after_first router_cmp e.0 (keys_of es) s)
          (Contains-from_In (keys_of es) f.0.0 (In-map (λ (x : Entry). x.0) es f.0 f.1)) in
          subst (λ (x : RouterId). IsLess x w) (sym one) (subst (λ (x : RouterId). IsLess e.0 x) (sym two) (less_from e.0 f.0.0 less))

  -- ---- a router has one loop

  in_strict_order : (loop : List RouterId) → AllPairs IsLess loop → AllPairs (λ a b. router_cmp a b ≡ Less) loop
  in_strict_order loop pairs = λ i j d lt within.
      (let a = get_or loop i d in let b = get_or loop j d in sym (nat_cmp_is a.0 b.0 Less (pairs i j d lt within)))

  one_loop : (v w : RouterId) (a b : List RouterId) → IsLoopOf next v a → IsLoopOf next w b → Contains a w → a ≡ b
  one_loop v w a b of_v of_w c =
      let g = (of_v.members w).0 c in
      let to : (x : RouterId) → Contains a x → Contains b x = λ x i.
      (let h = (of_v.members x).0 i in
      (of_w.members x).1 (goes_then next w v x g.1 (goes_reaches next v x h.0), goes_then next x v w h.1 (goes_reaches next v w g.0))) in
      let fro : (x : RouterId) → Contains b x → Contains a x = λ x i.
      (let h = (of_w.members x).0 i in
      (of_v.members x).1 (goes_then next v w x g.0 (goes_reaches next w x h.0), goes_then next x w v h.1 (goes_reaches next w v g.1))) in
      rising-is router_total router_exact a b (in_strict_order a of_v.order) (λ x. (to x, fro x))
      ∙ sym (rising-is router_total router_exact b b (in_strict_order b of_w.order) (λ x. (λ h. h, λ h. h)))

  -- ---- the loops that were found

  module _ (routers : List RouterId) (s : SearchValue) (leads : (v w : RouterId) → Contains (next v) w → Contains routers v) (done : IsDone next s) where
    abbrev entries : List Entry
    entries = s.loops

    abbrev found : List (List RouterId)
    found = values_of entries

    settled : (v : RouterId) → IsSettled s.unseen s.on_path v
    settled v = record {
      seen = done.all_seen v;
      off_path = lacks_from s.on_path v
          (λ h. absurd (subst (λ (gs : List GroupValue). OnPath gs v) done.no_path ((done.search.on_path v).0 h)));
    }

    entry_from : (k : RouterId) (loop : List RouterId) → In entries (k, loop) → IsLoopFrom next k loop
    entry_from k loop i =
        done.search.each k loop
        (lookup-from_Contains (eq_by_cmp_equiv router_total) k loop entries (IsDistinct-from_sorted router_cmp (keys_of entries) done.search.ordered)
        (Contains-from_In entries (k, loop) i))

    loop_from : (loop : List RouterId) → Contains found loop → (k : RouterId) × IsLoopFrom next k loop
    loop_from loop c =
        let f = map-In (λ (x : Entry). x.1) entries loop (In-from_Contains found loop c) in
        (f.0.0, subst (λ (l : List RouterId). IsLoopFrom next f.0.0 l) f.2 (entry_from f.0.0 f.0.1 f.1))

    in_found : (k : RouterId) (loop : List RouterId) → loop_at s.loops k ≡ Some loop → Contains found loop
    in_found k loop e =
        Contains-from_In found loop (In-map (λ (x : Entry). x.1) entries (k, loop)
        (In-from_Contains entries (k, loop) (Contains-from_lookup {eq = eq_by_cmp router_cmp} at_same k loop entries e)))

    least_in : (k : RouterId) (loop : List RouterId) → IsLoopFrom next k loop → Contains loop k
    least_in k loop from = head_in loop k from.least

    on_cycle : (k : RouterId) (loop : List RouterId) → IsLoopFrom next k loop → IsOnCycle next k
    on_cycle k loop from = ((from.loop_of.members k).0 (least_in k loop from)).0

    each : (loop : List RouterId) → Contains found loop → (k : RouterId) × Contains routers k × IsLoopFrom next k loop
    each loop c =
        let f = loop_from loop c in
        let cycle = on_cycle f.0 loop f.1 in
        (f.0, leads f.0 cycle.0 cycle.1, f.1)

    all : (v : RouterId) (loop : List RouterId) → Contains routers v → IsLoopFrom next v loop → Contains found loop
    all v loop there from =
        let f = done.search.all v (settled v) (on_cycle v loop from) in
        subst (λ (l : List RouterId). Contains found l)
        (one_loop f.0 v f.1 loop (done.search.each f.0 f.1 f.2).loop_of from.loop_of f.3) (in_found f.0 f.1 f.2)

    members : AreOnLoops next found
    members v = (
      λ p. (let f = loop_from p.0 p.1 in let g = (f.1.loop_of.members v).0 p.2 in goes_then next v f.0 v g.1 (goes_reaches next f.0 v g.0)),
      λ cycle. (let f = done.search.all v (settled v) cycle in (f.1, in_found f.0 f.1 f.2, f.3)),
    )

    pub all_loops : AreAllLoops next routers found
    all_loops = record {
      loops = record {
        each = All-weaker (Contains found) (λ loop. (k : RouterId) × Contains routers k × IsLoopFrom next k loop) each found (All-contains_itself found);
        all = all;
        order = begins entries (λ k loop i. (entry_from k loop i).least) done.search.ordered;
      };
      members = members;
    }
