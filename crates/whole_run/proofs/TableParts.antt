-- A reply that is written part by part.
use Rattle.std.proofs.Common.{◌≡◌, ℕ, suc, ◌+◌, ◌<◌, List, [], ◌∷◌, ◌++◌, Option, ap, subst, sym, ◌∙◌, length, take, drop, get_or, append-nil}
use Rattle.std.proofs.Common.{take-append-drop, drop-cons}
use Rattle.std.specs.Prelude.{flat_map}
use Rattle.std.proofs.lemmas.List.{take_more}
use Rattle.std.proofs.lemmas.Grind.{flat_map-append}
use Rattle.std.specs.Io.KnownBytes.{Appends}
use Rattle.std.proofs.KnownBytes.{Appends-trans, Appends-nil}
use Rattle.host_io.specs.WholeText.{AppendsPrefix}
use Rattle.host_io.proofs.PrefixLemmas.{AppendsPrefix-after}

-- of the texts of a list, those before one are written; then that one is, or a prefix of it
module _ {X : Type 0} (text : X → List ℕ) (xs : List X) (i : ℕ) (d : X) (lt : i < length xs) where
  one_more : flat_map text (take (i + 1) xs) ≡ flat_map text (take i xs) ++ text (get_or xs i d)
  one_more =
      ap (flat_map text) (take_more xs i d lt)
      ∙ flat_map-append text (take i xs) (get_or xs i d ∷ [])
      ∙ ap (λ l. flat_map text (take i xs) ++ l) (append-nil (text (get_or xs i d)))

  all_three : flat_map text xs ≡ flat_map text (take i xs) ++ (text (get_or xs i d) ++ flat_map text (drop (suc i) xs))
  all_three =
      ap (flat_map text) (sym (take-append-drop i xs) ∙ ap (λ l. take i xs ++ l) (drop-cons xs i d lt))
      ∙ flat_map-append text (take i xs) (get_or xs i d ∷ drop (suc i) xs)

  pub one_written : (a b c : Option (List ℕ)) (part : List ℕ) → part ≡ text (get_or xs i d) → Appends a b (flat_map text (take i xs))
      → Appends b c part → Appends a c (flat_map text (take (i + 1) xs))
  one_written a b c part is before one =
      subst (Appends a c) (ap (λ l. flat_map text (take i xs) ++ l) is ∙ sym one_more) (Appends-trans a b c _ _ before one)

  pub one_begun : (a b c : Option (List ℕ)) (part : List ℕ) → part ≡ text (get_or xs i d) → Appends a b (flat_map text (take i xs))
      → AppendsPrefix b c part → AppendsPrefix a c (flat_map text xs)
  one_begun a b c part is before one =
      AppendsPrefix-after a b c _ _ part _ (all_three ∙ ap (λ l. flat_map text (take i xs) ++ (l ++ flat_map text (drop (suc i) xs))) (sym is)) before one

-- the head of a text is begun, and its rest once the head is written
module _ (whole head rest text : List ℕ) (is : whole ≡ head ++ rest) (same : text ≡ head) where
  from_head : whole ≡ text ++ rest
  from_head = is ∙ ap (λ l. l ++ rest) (sym same)

  pub head_begun : (a b : Option (List ℕ)) → AppendsPrefix a b text → AppendsPrefix a b whole
  head_begun a b part = AppendsPrefix-after a a b whole [] text rest from_head (Appends-nil a) part

  pub rest_begun : (more : List ℕ) → more ≡ rest → (a b c : Option (List ℕ)) → Appends a b text → AppendsPrefix b c more → AppendsPrefix a c whole
  rest_begun more left a b c before part =
      AppendsPrefix-after a b c whole text more [] (from_head ∙ ap (λ l. text ++ l) (sym left ∙ sym (append-nil more))) before part

  pub rest_written : (more : List ℕ) → more ≡ rest → (a b c : Option (List ℕ)) → Appends a b text → Appends b c more → Appends a c whole
  rest_written more left a b c before after =
      subst (Appends a c) (sym (from_head ∙ ap (λ l. text ++ l) (sym left))) (Appends-trans a b c text more before after)
