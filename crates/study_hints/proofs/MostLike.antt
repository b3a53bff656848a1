-- The word that is most like another, candidate by candidate.
use Rattle.std.proofs.Common.{◌≡◌, ℕ, ◌+◌, ◌<◌, ◌≤◌, cond, eqb, max, List, [], ◌∷◌, ◌++◌, length, map, take, get_or, Option, Some, None, refl, sym, ap, ◌∙◌, arith, inl, inr, eq-zero-or-pos, Bool}
use Rattle.std.specs.Option.{option_or}
use Rattle.std.specs.List.{find}
use Rattle.std.proofs.lemmas.Bool.{cases_eq, eq-eqb, ne_eqb}
use Rattle.std.proofs.lemmas.List.{map-append, take_more, take_all}
use Rattle.std.proofs.lemmas.List.Folds.{find-append}
use Rattle.text_words.specs.Words.{Word}
use Rattle.study_hints.specs.Near.{likeness, most_like, near}

module _ (word : Word) where
  -- a word is this much like it
  abbrev is_so_like : ℕ → Word → Bool
  is_so_like n other = eqb (likeness word other) n

  at_least : (others : List Word) (x : Word) → most_like word (others ++ x ∷ []) ≡ max (most_like word others) (likeness word x)
  at_least [] x = omega arith
  at_least (other ∷ others) x = let more = at_least others x in omega (arith, more)

  -- the greatest likeness is that of a word
  found : (others : List Word) (n : ℕ) → n ≡ most_like word others → 0 < n → (o : Word) × (find (is_so_like n) others ≡ Some o)
  found [] n is some = absurd (omega arith)
  found (other ∷ others) n is some =
      elim (cases_eq (likeness word other) n) [
        | inl same ↦ (other, ap (λ b. cond b (Some other) (find (is_so_like n) others)) (eq-eqb (likeness word other) n same))
        | inr differ ↦
            let rest = found others n (omega arith) some in
            (rest.0, ap (λ b. cond b (Some other) (find (is_so_like n) others)) (ne_eqb (likeness word other) n differ) ∙ rest.1)
      ]

  -- no word is more like it
  absent : (others : List Word) (n : ℕ) → most_like word others < n → find (is_so_like n) others ≡ None
  absent [] n above = refl
  absent (other ∷ others) n above =
      ap (λ b. cond b (Some other) (find (is_so_like n) others)) (ne_eqb (likeness word other) n (λ e. omega arith)) ∙ absent others n (omega arith)

  module _ (others : List Word) (x : Word) where
    abbrev near_by : ℕ → Option Word
    near_by n = cond (eqb n 0) None (find (is_so_like n) (others ++ x ∷ []))

    -- one more that is no more like it
    kept : likeness word x ≤ most_like word others → near word (others ++ x ∷ []) ≡ near word others
    kept le =
        let n = most_like word others in
        let all = find (is_so_like n) (others ++ x ∷ []) in
        let before = find (is_so_like n) others in
        let same : most_like word (others ++ x ∷ []) ≡ n = at_least others x ∙ omega arith in
        ap near_by same
        ∙ elim (eq-zero-or-pos n) [
          | inl none ↦ ap (λ b. cond b None all) (eq-eqb n 0 none) ∙ sym (ap (λ b. cond b None before) (eq-eqb n 0 none))
          | inr some ↦
              let it = found others n refl some in
              ap (cond (eqb n 0) None)
              (find-append (is_so_like n) others (x ∷ []) ∙ ap (λ o. option_or o (find (is_so_like n) (x ∷ []))) it.1 ∙ sym it.1)
        ]

    -- one more that is more like it
    better : most_like word others < likeness word x → near word (others ++ x ∷ []) ≡ Some x
    better above =
        let n = likeness word x in
        let all = find (is_so_like n) (others ++ x ∷ []) in
        let same : most_like word (others ++ x ∷ []) ≡ n = at_least others x ∙ omega arith in
        ap near_by same
        ∙ ap (λ b. cond b None all) (ne_eqb n 0 (λ e. omega arith))
        ∙ find-append (is_so_like n) others (x ∷ []) ∙ ap (λ o. option_or o (find (is_so_like n) (x ∷ []))) (absent others n above)
        ∙ ap (λ b. cond b (Some x) None) (eq-eqb n n refl)

module _ {X : Type 0} (text : X → List ℕ) (word : Word) (xs : List X) (i : ℕ) where
  -- those so far
  abbrev pub front : List Word
  front = map text (take i xs)

  abbrev pub front_and_next : List Word
  front_and_next = map text (take (i + 1) xs)

  next_too : (x : X) → i < length xs → x ≡ get_or xs i x → front_and_next ≡ front ++ text x ∷ []
  next_too x lt is =
      ap (map text) (take_more xs i x lt) ∙ map-append text (take i xs) (get_or xs i x ∷ []) ∙ ap (λ y. front ++ text y ∷ []) (sym is)

  module _ (x : X) (lt : i < length xs) (is : x ≡ get_or xs i x) (most alike : ℕ) (so_far : most ≡ most_like word front) (at : alike ≡ likeness word (text x)) where
    most_so_far : most_like word front_and_next ≡ max most alike
    most_so_far = ap (most_like word) (next_too x lt is) ∙ at_least word front (text x) ∙ ap (λ n. max n (likeness word (text x))) (sym so_far) ∙ ap (max most) (sym at)

    pub most_taken : most < alike → alike ≡ most_like word front_and_next
    most_taken above = let e = most_so_far in omega (arith, e)

    pub near_taken : most < alike → Some (text x) ≡ near word front_and_next
    near_taken above = sym (ap (near word) (next_too x lt is) ∙ better word front (text x) (omega (arith, so_far, at)))

    pub most_kept : alike ≤ most → most ≡ most_like word front_and_next
    most_kept below = let e = most_so_far in omega (arith, e)

    pub near_kept : alike ≤ most → near word front ≡ near word front_and_next
    near_kept below = sym (ap (near word) (next_too x lt is) ∙ kept word front (text x) (omega (arith, so_far, at)))

  -- all of them
  pub near_all : (best : Option Word) → length xs ≤ i → best ≡ near word front → best ≡ near word (map text xs)
  near_all best done so_far = so_far ∙ ap (λ those. near word (map text those)) (take_all i xs done)
