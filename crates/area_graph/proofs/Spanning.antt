-- Lists that are kept one after another in one list.
use Rattle.std.proofs.Common.{◌≡◌, ℕ, suc, ◌-◌, ◌+◌, ◌<◌, ◌≤◌, List, [], ◌∷◌, ◌++◌, take, drop, length, get_or, Some, refl, sym, ap, ◌∙◌, subst}
use Rattle.std.proofs.Common.{arith, append_assoc, ⊎_elim}
use Rattle.std.specs.Prelude.{AllPairs, slice_get, slice_set}
use Rattle.std.specs.List.{All, slice_range}
use Rattle.std.proofs.lemmas.Bool.{cases_eq, cases_lt}
use Rattle.std.proofs.lemmas.List.{get_or-map, get_or-set_other, get_or-set_same, length-map, length-set, length-take-le, take-append-drop}
use Rattle.std.proofs.lemmas.Option.{get_or_from_slice_get, slice_get_within}
use Rattle.std.proofs.lemmas.Slice.{drop-append-drop}
use Rattle.std.proofs.Math.Seq.{drop-append_seam}
use Rattle.std.proofs.lemmas.List.{drop-append-le, take-append-le, take_all, map_push, length-append, length-drop}
use Rattle.area_graph.specs.declared.rows.Span.{Span}
use Rattle.area_graph.specs.steps.Spans.{IsWithin, rows_at}
use Rattle.area_graph.proofs.MemberLemmas.{Some-same, map-by_place}

module _ {X : Type 0} where
  slice-append : (xs ys : List X) (a b : ℕ) → a ≤ b → b ≤ length xs → slice_range (xs ++ ys) a b ≡ slice_range xs a b
  slice-append xs ys a b le within =
      let rest : length (drop a xs) ≡ length xs - a = length-drop a xs in
      ap (take (b - a)) (drop-append-le a xs ys (omega arith)) ∙ take-append-le (b - a) (drop a xs) ys (omega arith)

  slice-last : (xs ys : List X) → slice_range (xs ++ ys) (length xs) (length (xs ++ ys)) ≡ ys
  slice-last xs ys =
      let sized : length (xs ++ ys) ≡ length xs + length ys = length-append xs ys in
      ap (take (length (xs ++ ys) - length xs)) (drop-append_seam xs ys) ∙ take_all (length (xs ++ ys) - length xs) ys (omega arith)

  -- more in the list
  pub rows_at-append : (xs ys : List X) (spans : List Span) → All (IsWithin (length xs)) spans → rows_at (xs ++ ys) spans ≡ rows_at xs spans
  rows_at-append xs ys [] within = refl
  rows_at-append xs ys (s ∷ spans) within =
      let here : IsWithin (length xs) s = within 0 s (omega arith) in
      ap (λ (x : List X). x ∷ rows_at (xs ++ ys) spans) (slice-append xs ys s.start s.end here.0 here.1)
      ∙ ap (λ (rows : List (List X)). slice_range xs s.start s.end ∷ rows) (rows_at-append xs ys spans (λ k d lt. within (suc k) d (omega arith)))

  -- one more list
  pub rows_at-push : (xs ys : List X) (spans : List Span) (span : Span) → All (IsWithin (length xs)) spans → span.start ≡ length xs
      → span.end ≡ length (xs ++ ys)
      → rows_at (xs ++ ys) (spans ++ span ∷ []) ≡ rows_at xs spans ++ ys ∷ []
  rows_at-push xs ys spans span within start end =
      map_push (λ (s : Span). slice_range (xs ++ ys) s.start s.end) spans span
      ∙ ap (λ (rows : List (List X)). rows ++ slice_range (xs ++ ys) span.start span.end ∷ []) (rows_at-append xs ys spans within)
      ∙ ap (λ (row : List X). rows_at xs spans ++ row ∷ []) ((λ i. slice_range (xs ++ ys) (start i) (end i)) ∙ slice-last xs ys)

-- ---- another list in one of the spans

module _ {X : Type 0} (xs ys : List X) (s : Span) (le : s.start ≤ s.end) (within : s.end ≤ length xs) (sized : length ys ≡ s.end - s.start) where
  abbrev written : List X
  written = take s.start xs ++ (ys ++ drop s.end xs)

  front : length (take s.start xs) ≡ s.start
  front = length-take-le s.start xs (omega arith)

  slice-here : slice_range written s.start s.end ≡ ys
  slice-here =
      ap (λ (n : ℕ). take (s.end - s.start) (drop n written)) (sym front)
      ∙ ap (take (s.end - s.start)) (drop-append_seam (take s.start xs) (ys ++ drop s.end xs))
      ∙ take-append-le (s.end - s.start) ys (drop s.end xs) (omega (arith, sized)) ∙ take_all (s.end - s.start) ys (omega (arith, sized))

  slice-before : (a b : ℕ) → a ≤ b → b ≤ s.start → slice_range written a b ≡ slice_range xs a b
  slice-before a b up low =
      let short : b ≤ length (take s.start xs) = omega (arith, front) in
      slice-append (take s.start xs) (ys ++ drop s.end xs) a b up short ∙ sym (slice-append (take s.start xs) (drop s.start xs) a b up short)
      ∙ ap (λ (zs : List X). slice_range zs a b) (take-append-drop s.start xs)

  slice-after : (a b : ℕ) → s.end ≤ a → slice_range written a b ≡ slice_range xs a b
  slice-after a b high =
      let size : length (take s.start xs ++ ys) ≡ s.end = omega (arith, length-append (take s.start xs) ys, front, sized) in
      ap (λ (zs : List X). take (b - a) (drop a zs)) (sym (append_assoc (take s.start xs) ys (drop s.end xs)))
      ∙ ap (take (b - a)) (drop-append-drop s.end xs (take s.start xs ++ ys) a high size)

  pub rows_at-written : (spans : List Span) (i : ℕ) → slice_get spans i ≡ Some s → All (IsWithin (length xs)) spans → AllPairs (λ a b. a.end ≤ b.start) spans
      → rows_at written spans ≡ slice_set (rows_at xs spans) i ys
  rows_at-written spans i at each apart = sym (map-by_place (λ (t : Span). slice_range written t.start t.end) spans (slice_set (rows_at xs spans) i ys) [] size by)
    where
      size : length (slice_set (rows_at xs spans) i ys) ≡ length spans
      size = length-set (rows_at xs spans) i ys ∙ length-map spans (λ (t : Span). slice_range xs t.start t.end)

      row : (j : ℕ) (t : Span) → slice_get spans j ≡ Some t → get_or (rows_at xs spans) j [] ≡ slice_range xs t.start t.end
      row j t at_j =
          get_or-map (λ (t : Span). slice_range xs t.start t.end) spans j t [] (slice_get_within spans j t at_j)
          ∙ ap (λ (u : Span). slice_range xs u.start u.end) (get_or_from_slice_get spans j t t at_j)

      ordered : (j k : ℕ) (t u : Span) → slice_get spans j ≡ Some t → slice_get spans k ≡ Some u → j < k → t.end ≤ u.start
      ordered j k t u at_j at_k lt =
          let first : get_or spans j t ≡ t = get_or_from_slice_get spans j t t at_j in
          let last : get_or spans k t ≡ u = get_or_from_slice_get spans k u t at_k in
          subst (λ (v : Span). t.end ≤ v.start) last
          (subst (λ (v : Span). v.end ≤ (get_or spans k t).start) first (apart j k t lt (slice_get_within spans k u at_k)))

      by : (j : ℕ) (t : Span) → slice_get spans j ≡ Some t → get_or (slice_set (rows_at xs spans) i ys) j [] ≡ slice_range written t.start t.end
      by j t at_j = ⊎_elim
          (λ same.
          (let is : s ≡ t = Some-same (sym at ∙ ap (slice_get spans) (sym same) ∙ at_j) in
          let lt : i < length (rows_at xs spans) = omega (arith, length-map spans (λ (t : Span). slice_range xs t.start t.end), slice_get_within spans i s at) in
          ap (λ (k : ℕ). get_or (slice_set (rows_at xs spans) i ys) k []) same
          ∙ get_or-set_same (rows_at xs spans) i ys [] lt ∙ sym slice-here ∙ ap (λ (u : Span). slice_range written u.start u.end) is))
          (λ other. get_or-set_other (rows_at xs spans) i j ys [] other ∙ row j t at_j ∙ ⊎_elim
          (λ lt. sym (slice-before t.start t.end
          (subst (λ (u : Span). u.start ≤ u.end) (get_or_from_slice_get spans j t t at_j) (each j t (slice_get_within spans j t at_j)).0) (ordered j i t s at_j at lt)))
          (λ ge. sym (slice-after t.start t.end (ordered i j s t at at_j (omega arith))))
          (cases_lt j i))
          (cases_eq j i)
