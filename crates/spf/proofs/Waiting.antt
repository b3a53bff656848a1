-- The numbers of vertices whose candidates wait.
use Rattle.std.proofs.Common.{◌≡◌, ◌≢◌, ℕ, ◌+◌, ◌<◌, ◌≤◌, ◌%◌, ◌^◌, List, ◌∷◌, Option, None, Some, IsSome, is_some, length, get_or, set, replicate, sym, ap, subst, ◌∙◌, arith, ◌⊎◌, inl, inr, ⊎_elim}
use Rattle.std.specs.List.Sorted.{IsPermutation}
use Rattle.std.proofs.lemmas.Bool.{cases_eq, cases_lt}
use Rattle.std.proofs.lemmas.Bool.Decides.{nat_tests}
use Rattle.std.proofs.lemmas.List.{get_or-set_other, get_or-set_same, get_or-replicate, get_or-map, get_or_past, length-replicate, length-set, length-map, map-set}
use Rattle.std.proofs.Math.Seq.{map-set_same}
use Rattle.std.proofs.lemmas.List.Sorted.{Contains-permutation}
use Rattle.spf.specs.declared.queue.Candidate.{Candidate}
use Rattle.spf.specs.steps.Search.{IsQueued, IsNoneFarther}
use Rattle.spf.specs.steps.Table.{AreWaiting, distance_in, settled_in, unreached}
use Rattle.spf.proofs.Pushing.{Contains-cons_cases, Contains-pushed, Contains-pushed_one}
use Rattle.spf.proofs.Reached.{at_set}

-- ---- what numbers stand for

pub settled_number : (n : ℕ) → n < 2 ^ 31 → distance_in n ≡ Some n
settled_number n small = grind (arith, nat_tests)

pub no_number : (n : ℕ) → 2 ^ 31 ≤ n → distance_in n ≡ None
no_number n large = grind (arith, nat_tests)

-- what a number says at its vertex
pub settled_at_number : (numbers : List ℕ) (i : ℕ) → i < length numbers → get_or (settled_in numbers) i None ≡ distance_in (get_or numbers i unreached)
settled_at_number numbers i within = get_or-map (λ n. distance_in n) numbers i unreached None within

-- a vertex with a distance stands for no other number
pub number_of_settled : (n d : ℕ) → distance_in n ≡ Some d → n ≡ d
number_of_settled n d is = ⊎_elim
    (λ lt. (let e : Some n ≡ Some d = sym (settled_number n lt) ∙ is in cc))
    (λ ge. absurd (let e : None ≡ Some d = sym (no_number n ge) ∙ is in cc))
    (cases_lt n (2 ^ 31))

-- a vertex gets its distance
pub settled_set : (numbers : List ℕ) (i d : ℕ) → d < 2 ^ 31 → settled_in (set numbers i d) ≡ set (settled_in numbers) i (Some d)
settled_set numbers i d small =
    map-set (λ n. distance_in n) numbers i d ∙ ap (λ (o : Option ℕ). set (settled_in numbers) i o) (settled_number d small)

pub none_farther_set : (numbers : List ℕ) (i d : ℕ) → i < length numbers → d < 2 ^ 31 → IsNoneFarther (settled_in numbers) d
    → IsNoneFarther (settled_in (set numbers i d)) d
none_farther_set numbers i d within small order j x at =
    let sized : length (settled_in numbers) ≡ length numbers = length-map numbers (λ n. distance_in n) in
    ⊎_elim
    (λ p. (let same : x ≡ d = p.1 in omega arith))
    (λ q. order j x q.1)
    (at_set (settled_in numbers) j i d x (omega arith) (subst (λ (ds : List (Option ℕ)). get_or ds j None ≡ Some x) (settled_set numbers i d small) at))

-- at first no vertex has a distance
pub none_settled : (count : ℕ) (i : ℕ) → get_or (settled_in (replicate count unreached)) i None ≡ None
none_settled count i = ⊎_elim
    (λ lt. settled_at_number (replicate count unreached) i (let n = length-replicate count unreached in omega arith)
    ∙ ap distance_in (get_or-replicate count i unreached unreached lt))
    (λ ge. get_or_past (settled_in (replicate count unreached)) i None
    (let n = length-replicate count unreached in let m = length-map (replicate count unreached) (λ n. distance_in n) in omega arith))
    (cases_lt i count)

-- and none waits
pub none_waiting : (count : ℕ) (queue : List Candidate) → AreWaiting (replicate count unreached) queue
none_waiting count queue i d small at = absurd
    (let is : get_or (replicate count unreached) i unreached ≡ unreached = ⊎_elim
    (λ lt. get_or-replicate count i unreached unreached lt)
    (λ ge. get_or_past (replicate count unreached) i unreached (let n = length-replicate count unreached in omega arith))
    (cases_lt i count) in omega arith)

module _ (numbers : List ℕ) (k v : ℕ) where
  -- the number of a vertex once one is written
  number_after : (i n : ℕ) → get_or (set numbers k v) i unreached ≡ n → n ≢ unreached
      → ((i ≡ k) × (n ≡ v)) ⊎ ((i ≢ k) × (get_or numbers i unreached ≡ n))
  number_after i n at some = ⊎_elim
      (λ (same : i ≡ k). inl (
        same,
        (⊎_elim
            (λ lt. (let here : get_or (set numbers k v) k unreached ≡ v = get_or-set_same numbers k v unreached lt in
            let at' : get_or (set numbers k v) k unreached ≡ n = subst (λ j. get_or (set numbers k v) j unreached ≡ n) same at in cc))
            (λ ge. absurd (some (sym at ∙ get_or_past (set numbers k v) i unreached (let n = length-set numbers k v in omega arith))))
            (cases_lt k (length numbers))),
      ))
      (λ other. inr (other, sym (get_or-set_other numbers k i v unreached other) ∙ at))
      (cases_eq i k)

module _ (numbers : List ℕ) (c : Candidate) where
  -- a candidate is added, and its distance is noted
  pub waiting_pushed : (old new : List Candidate) → IsPermutation (c ∷ old) new → AreWaiting numbers old
      → AreWaiting (set numbers c.index (c.distance + 2 ^ 31)) new
  waiting_pushed old new p are i d small at = ⊎_elim
      (λ h. (let n : d + 2 ^ 31 ≡ c.distance + 2 ^ 31 = h.1 in (c, Contains-pushed_one c old new p, sym h.0, omega arith)))
      (λ h. (let q = are i d small h.1 in (q.0, Contains-pushed c old new p q.0 q.1, q.2, q.3)))
      (number_after numbers c.index (c.distance + 2 ^ 31) i (d + 2 ^ 31) at (λ is. absurd (omega arith)))

  -- a candidate that waits for another vertex is among the rest
  among_rest : (rest : List Candidate) (i d : ℕ) → i ≢ c.index → IsQueued (c ∷ rest) i d → IsQueued rest i d
  among_rest rest i d other q = (
    q.0,
    ⊎_elim (λ one. absurd (other (sym (ap (λ (x : Candidate). x.index) one ∙ q.2)))) (λ there. there)
        (Contains-cons_cases c rest q.0 q.1),
    q.2,
    q.3,
  )

  -- the vertex of a candidate gets its distance
  pub waiting_settled : (rest : List Candidate) → c.distance < 2 ^ 31 → AreWaiting numbers (c ∷ rest) → AreWaiting (set numbers c.index c.distance) rest
  waiting_settled rest near are i d small at = ⊎_elim
      (λ h. absurd (let n : d + 2 ^ 31 ≡ c.distance = h.1 in omega arith))
      (λ h. among_rest rest i d h.0 (are i d small h.1))
      (number_after numbers c.index c.distance i (d + 2 ^ 31) at (λ is. absurd (omega arith)))

  -- or has one
  pub waiting_dropped : (rest : List Candidate) (x : ℕ) → c.index < length numbers → get_or (settled_in numbers) c.index None ≡ Some x
      → AreWaiting numbers (c ∷ rest) → AreWaiting numbers rest
  waiting_dropped rest x within at are i d small is = among_rest rest i d
      (λ (same : i ≡ c.index). absurd
      (let here : get_or numbers c.index unreached ≡ d + 2 ^ 31 = subst (λ j. get_or numbers j unreached ≡ d + 2 ^ 31) same is in
      let none : distance_in (get_or numbers c.index unreached) ≡ None = no_number (get_or numbers c.index unreached) (omega arith) in
      let clash : None ≡ Some x = sym none ∙ sym (settled_at_number numbers c.index within) ∙ at in cc))
      (are i d small is)

-- a candidate is taken
pub waiting_taken : (numbers : List ℕ) (queue : List Candidate) (c : Candidate) (rest : List Candidate)
    → IsPermutation queue (c ∷ rest) → AreWaiting numbers queue → AreWaiting numbers (c ∷ rest)
waiting_taken numbers queue c rest p are i d small at =
    let q = are i d small at in (q.0, Contains-permutation queue (c ∷ rest) q.0 p q.1, q.2, q.3)

module _ (numbers : List ℕ) (i near distance : ℕ) (within : i < length numbers) (low : near ≤ distance)
    (none : IsNoneFarther (settled_in numbers) near) where
  -- a number that says nothing less than a distance is not that of a settled vertex
  pub not_settled : distance < get_or numbers i unreached % 2 ^ 31 → 2 ^ 31 ≤ get_or numbers i unreached
  not_settled more = ⊎_elim
      (λ lt. absurd (let at : get_or (settled_in numbers) i None ≡ Some (get_or numbers i unreached) =
      settled_at_number numbers i within ∙ settled_number (get_or numbers i unreached) lt in
      let le : get_or numbers i unreached ≤ near = none i (get_or numbers i unreached) at in omega arith))
      (λ ge. ge)
      (cases_lt (get_or numbers i unreached) (2 ^ 31))

  -- what is noted of such a vertex settles none
  pub settled_noted : (d : ℕ) → distance < get_or numbers i unreached % 2 ^ 31 → settled_in (set numbers i (d + 2 ^ 31)) ≡ settled_in numbers
  settled_noted d more = map-set_same (λ n. distance_in n) numbers i (d + 2 ^ 31) unreached
      (no_number (d + 2 ^ 31) (omega arith) ∙ sym (no_number (get_or numbers i unreached) (not_settled more)))

-- a number that says no more than a distance is that of a settled vertex, or a candidate waits that is no farther
pub known : (numbers : List ℕ) (queue : List Candidate) (i distance : ℕ) → i < length numbers → distance + 1 < 2 ^ 31 → AreWaiting numbers queue
    → get_or numbers i unreached % 2 ^ 31 ≤ distance → get_or numbers i unreached < 2 ^ 32
    → IsSome (get_or (settled_in numbers) i None) ⊎ IsQueued queue i distance
known numbers queue i distance within small are less fits = ⊎_elim
    (λ lt. inl (ap (λ (o : Option ℕ). is_some o) (settled_at_number numbers i within ∙ settled_number (get_or numbers i unreached) lt)))
    (λ ge. inr
    (let d = get_or numbers i unreached % 2 ^ 31 in
    let at : get_or numbers i unreached ≡ d + 2 ^ 31 = omega arith in
    let q = are i d (omega arith) at in
    (q.0, q.1, q.2, (let low : q.0.distance ≤ d = q.3 in omega arith))))
    (cases_lt (get_or numbers i unreached) (2 ^ 31))
