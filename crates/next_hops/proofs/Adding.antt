-- Vertices that receive one more list.
use Rattle.std.proofs.Common.{◌≡◌, ℕ, zero, suc, ◌<◌, List, [], ◌∷◌, ◌++◌, length, map, get_or, set, take, drop, refl, sym, ap, ◌∙◌, subst, arith}
use Rattle.std.proofs.Common.{⊎_elim, inl, inr}
use Rattle.std.specs.List.{Contains, insert}
use Rattle.std.proofs.lemmas.List.{get_or-map, length-map, map-set, take-append-drop}
use Rattle.std.proofs.lemmas.List.Elements.{Contains-append_cases, Contains-append_left, Contains-append_right, Contains-get_or, All-contains}
use Rattle.std.specs.declared.vec.Vec.{Vec}
use Rattle.area_graph.specs.Rising.{rising}
use Rattle.area_graph.proofs.MemberLemmas.{In-from_Contains, Contains-from_In, In-flat_map, flat_map-In}
use Rattle.next_hops.specs.declared.hop.Hop.{Hop}
use Rattle.next_hops.specs.declared.handed.Handed.{Handed}
use Rattle.next_hops.specs.Hop.{hop_cmp}
use Rattle.next_hops.specs.FirstHops.{hops_at}
use Rattle.next_hops.specs.steps.Handed.{Adds, handed_hops, numbers_in}
use Rattle.next_hops.specs.steps.Passing.{Grows}
use Rattle.next_hops.specs.steps.Shared.{AreWithin, hops_in, list_in}
use Rattle.next_hops.proofs.Growing.{Grows-joined}
use Rattle.next_hops.proofs.Inserted.{rising-joined, rising-same}

only_one : (n m : ℕ) → Contains (n ∷ []) m → m ≡ n
only_one n m (zero, low, is) = sym is
only_one n m (suc k, low, is) = absurd (let k' : suc k < 1 = low in omega arith)

-- a number put in at any place
pub Adds-insert : (numbers : List ℕ) (place n : ℕ) → Adds n numbers (insert numbers place n)
Adds-insert numbers place n =
    let front = take place numbers in
    let back = drop place numbers in
    let whole : front ++ back ≡ numbers = take-append-drop place numbers in
    record {
      kept = λ m there. ⊎_elim
          (λ x. Contains-append_left front (n ∷ back) m x)
          (λ x. Contains-append_right front (n ∷ back) m (Contains-append_right (n ∷ []) back m x))
          (Contains-append_cases front back m (subst (λ (xs : List ℕ). Contains xs m) (sym whole) there));
      only = λ m there. ⊎_elim
          (λ x. inl (subst (λ (xs : List ℕ). Contains xs m) whole (Contains-append_left front back m x)))
          (λ x. ⊎_elim
          (λ y. inr (only_one n m y))
          (λ y. inl (subst (λ (xs : List ℕ). Contains xs m) whole (Contains-append_right front back m y)))
          (Contains-append_cases (n ∷ []) back m x))
          (Contains-append_cases front (n ∷ back) m there);
      has = Contains-append_right front (n ∷ back) n (0, omega arith, refl);
    }

module _ {A : Type 0} (lists : List (Vec Hop A)) where
  pub AreWithin-added : (n : ℕ) (old new : List ℕ) → Adds n old new → AreWithin lists old → n < length lists → AreWithin lists new
  AreWithin-added n old new adds within lt k d low =
      ⊎_elim
      (λ was. All-contains (λ m. m < length lists) old (get_or new k d) within was)
      (λ is. subst (λ (m : ℕ). m < length lists) (sym is) lt)
      (adds.only (get_or new k d) (Contains-get_or new k d low))

  -- a hop of one of these lists
  abbrev IsAmong : List ℕ → Hop → Type 0
  IsAmong numbers h = (n : ℕ) × Contains numbers n × Contains (list_in lists n) h

  hops_in-has : (numbers : List ℕ) (h : Hop) → IsAmong numbers h → Contains (hops_in lists numbers) h
  hops_in-has numbers h (n, listed, there) =
      Contains-from_In (hops_in lists numbers) h
      (In-flat_map (λ m. list_in lists m) numbers n h (In-from_Contains numbers n listed) (In-from_Contains (list_in lists n) h there))

  hops_in-only : (numbers : List ℕ) (h : Hop) → Contains (hops_in lists numbers) h → IsAmong numbers h
  hops_in-only numbers h there =
      let r = flat_map-In (λ m. list_in lists m) numbers h (In-from_Contains (hops_in lists numbers) h there) in
      (r.0, Contains-from_In numbers r.0 r.1, Contains-from_In (list_in lists r.0) h r.2)

  -- the hops with those of one more list
  rising-added : (n : ℕ) (old new : List ℕ) → Adds n old new
      → rising hop_cmp (hops_in lists new) ≡ rising hop_cmp (rising hop_cmp (hops_in lists old) ++ list_in lists n)
  rising-added n old new adds =
      rising-same (hops_in lists new) (hops_in lists old ++ list_in lists n)
      (λ h there. let among = hops_in-only new h there in
      ⊎_elim
      (λ was. Contains-append_left (hops_in lists old) (list_in lists n) h (hops_in-has old h (among.0, was, among.2)))
      (λ is. Contains-append_right (hops_in lists old) (list_in lists n) h (subst (λ (m : ℕ). Contains (list_in lists m) h) is among.2))
      (adds.only among.0 among.1))
      (λ h there. ⊎_elim
      (λ was. let among = hops_in-only old h was in hops_in-has new h (among.0, adds.kept among.0 among.1, among.2))
      (λ more. hops_in-has new h (n, adds.has, more))
      (Contains-append_cases (hops_in lists old) (list_in lists n) h there))
      ∙ sym (rising-joined (hops_in lists old) (list_in lists n))

  -- the table of vertices, one of which receives a list
  pub Grows-handed : (vertices : List (Handed A)) (to n : ℕ) (was now : Handed A) → to < length vertices → was ≡ get_or vertices to was
      → Adds n (numbers_in was) (numbers_in now)
      → Grows (λ i h. (i ≡ to) × Contains (list_in lists n) h) (map (λ v. handed_hops lists v) vertices) (map (λ v. handed_hops lists v) (set vertices to now))
  Grows-handed vertices to n was now within is adds =
      let table = map (λ v. handed_hops lists v) vertices in
      let read : hops_at table to ≡ handed_hops lists was = get_or-map (λ v. handed_hops lists v) vertices to was [] within
      ∙ ap (λ (v : Handed A). handed_hops lists v) (sym is) in
      subst (λ (new : List (List Hop)). Grows (λ i h. (i ≡ to) × Contains (list_in lists n) h) table new)
      (sym (map-set (λ v. handed_hops lists v) vertices to now))
      (Grows-joined table to (subst (λ (m : ℕ). to < m) (sym (length-map vertices (λ v. handed_hops lists v))) within)
      (list_in lists n) (handed_hops lists now)
      (rising-added n (numbers_in was) (numbers_in now) adds ∙ ap (λ (hops : List Hop). rising hop_cmp (hops ++ list_in lists n)) (sym read)))
