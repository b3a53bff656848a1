-- The lines of a comparison, as they are added.
use Rattle.std.proofs.Common.{◌≡◌, ℕ, ◌+◌, ◌<◌, ◌≤◌, Bool, true, false, cond, List, [], ◌∷◌, ◌++◌, length, take, get_or, codes, Option, None, Some, refl, sym, ap, subst, ◌∙◌, arith}
use Rattle.std.specs.List.{cons_option, filter_map}
use Rattle.std.specs.Str.{bytes_eq}
use Rattle.std.proofs.lemmas.Grind.{flat_map-append}
use Rattle.std.proofs.lemmas.List.{append-nil, append_assoc, length-append, take_more}
use Rattle.std.proofs.lemmas.List.Elements.{filter_map-append}
use Rattle.best_ways.specs.Values.{RouteValue}
use Rattle.table_report.specs.Comparing.{change}
use Rattle.table_report.specs.Texts.{line_of, lines_text, rest_of}
use Rattle.table_report.specs.steps.Lines.{AddsLine}

joined : (old line rest : List ℕ)
    → ((((old ++ codes "~ ") ++ line) ++ codes " was ") ++ rest) ++ codes "\n" ≡ old ++ (codes "~ " ++ line ++ codes " was " ++ rest ++ codes "\n")
joined old line rest = simp append_assoc refl

-- the line of two routes whose lines differ, piece by piece
module _ (before now : RouteValue) (line_before line_now : List ℕ) (was : line_before ≡ line_of before) (is : line_now ≡ line_of now) where
  pub changed_line : (equal : Bool) (old a b d e new : List ℕ) → equal ≡ bytes_eq line_before line_now → equal ≡ false
      → a ≡ old ++ codes "~ " → b ≡ a ++ line_now → d ≡ b ++ codes " was " → e ≡ d ++ rest_of before → new ≡ e ++ codes "\n"
      → AddsLine (change (Some before) (Some now)) old true new
  changed_line equal old a b d e new test differ one two three four five =
      let differs : bytes_eq (line_of before) (line_of now) ≡ false =
      sym (ap (λ l. bytes_eq l (line_of now)) was) ∙ sym (ap (bytes_eq line_before) is) ∙ sym test ∙ differ in
      subst (λ (c : Bool). AddsLine (cond c None (Some (codes "~ " ++ line_of now ++ codes " was " ++ rest_of before))) old true new) (sym differs) (
        refl,
        five ∙ ap (λ l. l ++ codes "\n") (four ∙ ap (λ l. l ++ rest_of before) (three ∙ ap (λ l. l ++ codes " was ")
            (two ∙ ap (λ l. l ++ line_now) one ∙ ap (λ l. (old ++ codes "~ ") ++ l) is)))
            ∙ joined old (line_of now) (rest_of before),
      )

-- ---- a line, or none, after those so far

lines_more : (lines : List (List ℕ)) (line : Option (List ℕ)) (old new : List ℕ) (added : Bool) → old ≡ lines_text lines
    → AddsLine line old added new → new ≡ lines_text (lines ++ cons_option line [])
lines_more lines None old new added so_far adds = adds.1 ∙ so_far ∙ ap lines_text (sym (append-nil lines))
lines_more lines (Some line) old new added so_far adds =
    adds.1 ∙ ap (λ l. l ++ (line ++ codes "\n")) so_far ∙ ap (λ l. lines_text lines ++ l) (sym (append-nil (line ++ codes "\n")))
    ∙ sym (flat_map-append (λ l. l ++ codes "\n") lines (line ∷ []))

added_count : (lines : List (List ℕ)) (line : Option (List ℕ)) (old new : List ℕ) (n : ℕ) → n ≡ length lines
    → AddsLine line old true new → n + 1 ≡ length (lines ++ cons_option line [])
added_count lines None old new n so_far adds = absurd cc
added_count lines (Some line) old new n so_far adds = ap (λ k. k + 1) so_far ∙ sym (length-append lines (line ∷ []))

same_count : (lines : List (List ℕ)) (line : Option (List ℕ)) (old new : List ℕ) (n : ℕ) → n ≡ length lines
    → AddsLine line old false new → n ≡ length (lines ++ cons_option line [])
same_count lines None old new n so_far adds = so_far ∙ ap length (sym (append-nil lines))
same_count lines (Some line) old new n so_far adds = absurd cc

module _ {X : Type 0} (f : X → Option (List ℕ)) where
  -- there are no more lines than prefixes
  pub no_more : (xs : List X) → length (filter_map f xs) ≤ length xs
  no_more [] = omega arith
  no_more (x ∷ xs) = by (f x) (no_more xs)
    where
      by : (o : Option (List ℕ)) → length (filter_map f xs) ≤ length xs → length (cons_option o (filter_map f xs)) ≤ length (x ∷ xs)
      by None h = omega arith
      by (Some line) h = omega arith

  module _ (xs : List X) (i : ℕ) (x : X) (lt : i < length xs) (is : x ≡ get_or xs i x) where
    further : filter_map f (take i xs) ++ cons_option (f x) [] ≡ filter_map f (take (i + 1) xs)
    further = sym (filter_map-append f (take i xs) (x ∷ [])) ∙ ap (λ y. filter_map f (take i xs ++ y ∷ [])) is ∙ ap (filter_map f) (sym (take_more xs i x lt))

    module _ (old new : List ℕ) (added : Bool) (adds : AddsLine (f x) old added new) where
      pub lines_are : old ≡ lines_text (filter_map f (take i xs)) → new ≡ lines_text (filter_map f (take (i + 1) xs))
      lines_are so_far = lines_more (filter_map f (take i xs)) (f x) old new added so_far adds ∙ ap lines_text further

      pub count_added : (n : ℕ) → added ≡ true → n ≡ length (filter_map f (take i xs)) → n + 1 ≡ length (filter_map f (take (i + 1) xs))
      count_added n did so_far =
          added_count (filter_map f (take i xs)) (f x) old new n so_far (subst (λ b. AddsLine (f x) old b new) did adds) ∙ ap length further

      pub count_same : (n : ℕ) → added ≡ false → n ≡ length (filter_map f (take i xs)) → n ≡ length (filter_map f (take (i + 1) xs))
      count_same n did_not so_far =
          same_count (filter_map f (take i xs)) (f x) old new n so_far (subst (λ b. AddsLine (f x) old b new) did_not adds) ∙ ap length further
