-- Tables of hops that grow.
use Rattle.std.proofs.Common.{◌≡◌, ℕ, zero, suc, ◌<◌, List, [], ◌∷◌, ◌++◌, length, get_or, set, map, refl, sym, ap, ◌∙◌, subst, arith, ◌⊎◌, inl, inr, ⊎_elim}
use Rattle.std.specs.List.{All, Contains}
use Rattle.std.proofs.lemmas.List.{get_or-set_same, get_or-set_other, length-set}
use Rattle.std.proofs.lemmas.List.Elements.{Contains-append_left, Contains-append_right, Contains-append_cases, Contains-push, Contains-push_cases}
use Rattle.std.proofs.lemmas.Bool.{cases_eq}
use Rattle.lsa_codec.specs.declared.address.Addr.{Addr}
use Rattle.area_graph.specs.declared.edge.Edge.{Edge}
use Rattle.area_graph.specs.Rising.{rising}
use Rattle.area_graph.specs.Topology.{Topology}
use Rattle.area_graph.proofs.MemberLemmas.{In-from_Contains, Contains-from_In, In-map, map-In}
use Rattle.spf.specs.Distances.{Distances}
use Rattle.next_hops.specs.declared.hop.Hop.{Hop}
use Rattle.next_hops.specs.Hop.{hop_cmp, IsSortedHops, extended}
use Rattle.next_hops.specs.FirstHops.{hops_at}
use Rattle.next_hops.specs.steps.Passing.{Grows, IsExtended, IsPassed, arc_of}
use Rattle.next_hops.proofs.Inserted.{IsSortedHops-rising, Contains-rising_hops}

pub Grows-none : (P : ℕ → Hop → Type 0) (a : List (List Hop)) → ((i : ℕ) (h : Hop) → P i h → ⊥) → Grows P a a
Grows-none P a none = record { sized = refl; kept = λ i h x. x; only = λ i h x. inl x; all = λ i h p. absurd (none i h p); sorted = λ s. s }

-- one growth after another
pub Grows-then : (P Q R : ℕ → Hop → Type 0) (a b c : List (List Hop)) → Grows P a b → Grows Q b c
    → ((i : ℕ) (h : Hop) → R i h → P i h ⊎ Q i h) → ((i : ℕ) (h : Hop) → P i h ⊎ Q i h → R i h) → Grows R a c
Grows-then P Q R a b c one two parts whole = record {
  sized = two.sized ∙ one.sized;
  kept = λ i h x. two.kept i h (one.kept i h x);
  only = λ i h x. ⊎_elim (λ y. ⊎_elim (λ z. inl z) (λ p. inr (whole i h (inl p))) (one.only i h y)) (λ q. inr (whole i h (inr q))) (two.only i h x);
  all = λ i h r. ⊎_elim (λ p. two.kept i h (one.all i h p)) (λ q. two.all i h q) (parts i h r);
  sorted = λ s. two.sorted (one.sorted s);
}

-- the same growth, stated differently
pub Grows-same : (P Q : ℕ → Hop → Type 0) (a b : List (List Hop)) → ((i : ℕ) (h : Hop) → P i h → Q i h)
    → ((i : ℕ) (h : Hop) → Q i h → P i h) → Grows P a b → Grows Q a b
Grows-same P Q a b there back g = record {
  sized = g.sized;
  kept = g.kept;
  only = λ i h x. ⊎_elim (λ old. inl old) (λ p. inr (there i h p)) (g.only i h x);
  all = λ i h q. g.all i h (back i h q);
  sorted = g.sorted;
}

-- hops joined to the list of one vertex
module _ (table : List (List Hop)) (index : ℕ) (within : index < length table) (more new : List Hop)
    (is : new ≡ rising hop_cmp (hops_at table index ++ more)) where
  has : (h : Hop) → Contains new h → Contains (hops_at table index) h ⊎ Contains more h
  has h there = Contains-append_cases (hops_at table index) more h
      ((Contains-rising_hops (hops_at table index ++ more) h).0 (subst (λ (xs : List Hop). Contains xs h) is there))

  from_old : (h : Hop) → Contains (hops_at table index) h → Contains new h
  from_old h old = subst (λ (xs : List Hop). Contains xs h) (sym is)
      ((Contains-rising_hops (hops_at table index ++ more) h).1 (Contains-append_left (hops_at table index) more h old))

  from_more : (h : Hop) → Contains more h → Contains new h
  from_more h m = subst (λ (xs : List Hop). Contains xs h) (sym is)
      ((Contains-rising_hops (hops_at table index ++ more) h).1 (Contains-append_right (hops_at table index) more h m))

  here : get_or (set table index new) index [] ≡ new
  here = get_or-set_same table index new [] within

  into : (i : ℕ) (h : Hop) → i ≡ index → Contains new h → Contains (get_or (set table index new) i []) h
  into i h same x = subst (λ (n : ℕ). Contains (get_or (set table index new) n []) h) (sym same) (subst (λ (xs : List Hop). Contains xs h) (sym here) x)

  out_of : (i : ℕ) (h : Hop) → i ≡ index → Contains (get_or (set table index new) i []) h → Contains new h
  out_of i h same x = subst (λ (xs : List Hop). Contains xs h) here (subst (λ (n : ℕ). Contains (get_or (set table index new) n []) h) same x)

  new_sorted : IsSortedHops new
  new_sorted = subst (λ (xs : List Hop). IsSortedHops xs) (sym is) (IsSortedHops-rising (hops_at table index ++ more))

  all_sorted : All IsSortedHops table → All IsSortedHops (set table index new)
  all_sorted s k d lt =
      let size : length (set table index new) ≡ length table = length-set table index new in
      ⊎_elim
      (λ same. subst (λ (xs : List Hop). IsSortedHops xs)
      (sym (ap (λ (n : ℕ). get_or (set table index new) n d) same ∙ get_or-set_same table index new d within)) new_sorted)
      (λ other. subst (λ (xs : List Hop). IsSortedHops xs) (sym (get_or-set_other table index k new d other)) (s k d (omega arith)))
      (cases_eq k index)

  pub Grows-joined : Grows (λ i h. (i ≡ index) × Contains more h) table (set table index new)
  Grows-joined = record {
    sized = length-set table index new;
    kept = λ i h x. ⊎_elim
        (λ same. into i h same (from_old h (subst (λ (n : ℕ). Contains (hops_at table n) h) same x)))
        (λ other. subst (λ (xs : List Hop). Contains xs h) (sym (get_or-set_other table index i new [] other)) x)
        (cases_eq i index);
    only = λ i h x. ⊎_elim
        (λ same. ⊎_elim (λ old. inl (subst (λ (n : ℕ). Contains (hops_at table n) h) (sym same) old)) (λ m. inr (same, m)) (has h (out_of i h same x)))
        (λ other. inl (subst (λ (xs : List Hop). Contains xs h) (get_or-set_other table index i new [] other) x))
        (cases_eq i index);
    all = λ i h p. into i h p.0 (from_more h p.1);
    sorted = all_sorted;
  }

-- a list of one hop
pub Contains-one : (x y : Hop) → Contains (x ∷ []) y → x ≡ y
Contains-one x y (zero, low, is) = is
Contains-one x y (suc k, low, is) = absurd (let k' : suc k < 1 = low in omega arith)

pub one-Contains : (x y : Hop) → x ≡ y → Contains (x ∷ []) y
one-Contains x y is = (0, omega arith, is)

-- the hops over one more edge
pub IsExtended-map : (hops : List Hop) (a : Addr) (h : Hop) → Contains (map (λ g. extended g a) hops) h → IsExtended hops a h
IsExtended-map hops a h there =
    let r = map-In (λ g. extended g a) hops h (In-from_Contains (map (λ g. extended g a) hops) h there) in
    (r.0, Contains-from_In hops r.0 r.1, r.2)

pub map-IsExtended : (hops : List Hop) (a : Addr) (h : Hop) → IsExtended hops a h → Contains (map (λ g. extended g a) hops) h
map-IsExtended hops a h (g, there, is) =
    subst (λ (x : Hop). Contains (map (λ g. extended g a) hops) x) is
    (Contains-from_In (map (λ g. extended g a) hops) (extended g a) (In-map (λ g. extended g a) hops g (In-from_Contains hops g there)))

-- a hop that reaches a vertex over one of these edges
abbrev pub IsPassedOver : Topology → Distances → List Hop → ℕ → List Edge → ℕ → Hop → Type 0
IsPassedOver t tree hops from row i h = (o : Edge) × Contains row o × (i ≡ o.to) × IsPassed t tree hops (arc_of from o) h

module _ (t : Topology) (tree : Distances) (hops : List Hop) (from : ℕ) (row : List Edge) (o : Edge) (i : ℕ) (h : Hop) where
  pub IsPassedOver-push : IsPassedOver t tree hops from (row ++ o ∷ []) i h → IsPassedOver t tree hops from row i h
      ⊎ ((i ≡ o.to) × IsPassed t tree hops (arc_of from o) h)
  IsPassedOver-push (x, there, at, passed) =
      ⊎_elim (λ old. inl (x, old, at, passed))
      (λ same. inr (subst (λ (y : Edge). (i ≡ y.to) × IsPassed t tree hops (arc_of from y) h) (sym same) (at, passed)))
      (Contains-push_cases row o x there)

  pub IsPassedOver-pushed : IsPassedOver t tree hops from row i h ⊎ ((i ≡ o.to) × IsPassed t tree hops (arc_of from o) h)
      → IsPassedOver t tree hops from (row ++ o ∷ []) i h
  IsPassedOver-pushed either =
      ⊎_elim (λ old. (old.0, Contains-append_left row (o ∷ []) old.0 old.1, old.2, old.3)) (λ new. (o, Contains-push row o, new.0, new.1)) either
