-- Arrays: their text, item by item, and their numbers.
use Rattle.std.proofs.Common.{◌≡◌, ℕ, ◌+◌, ◌<◌, ◌≤◌, List, [], ◌∷◌, ◌++◌, codes, length, map, take, get_or, refl, sym, ap, ◌∙◌, subst}
use Rattle.std.specs.Prelude.{flat_map}
use Rattle.std.proofs.lemmas.List.{append_assoc, flat_map_more, take_all, take_more}
use Rattle.json.specs.Json.{Json}
use Rattle.json.specs.Tree.{HasNumbers, ItemsHaveNumbers}
use Rattle.json.specs.Value.{items_of}
use Rattle.study_json.specs.JsonText.{json_text, items_text}
use Rattle.study_json.specs.Leaves.{array_json}

module _ {X : Type 0} (json : X → Json) where
  -- an item after a comma
  abbrev pub after : X → List ℕ
  after x = codes "," ++ json_text (json x)

  -- the items after the first, and the bracket at the end
  pub rest_text : (xs : List X) → flat_map after xs ++ codes "]" ≡ items_text (codes ",") (items_of (map json xs))
  rest_text [] = refl
  rest_text (x ∷ xs) = append_assoc (after x) (flat_map after xs) (codes "]") ∙ ap (λ (l : List ℕ). after x ++ l) (rest_text xs)

  -- ---- one more item after those so far

  pub one_more : (start : List ℕ) (xs : List X) (i : ℕ) (x : X) (so_far begun next : List ℕ) → i < length xs → x ≡ get_or xs i x
      → so_far ≡ start ++ flat_map after (take i xs) → begun ≡ so_far ++ codes "," → next ≡ begun ++ json_text (json x)
      → next ≡ start ++ flat_map after (take (i + 1) xs)
  one_more start xs i x so_far begun next lt is are marked shown =
      shown ∙ ap (λ l. l ++ json_text (json x)) marked ∙ append_assoc so_far (codes ",") (json_text (json x)) ∙ ap (λ l. l ++ after x) are
      ∙ flat_map_more after start (take i xs) x
      ∙ ap (λ y. start ++ flat_map after (take i xs ++ y ∷ [])) is ∙ ap (λ (those : List X). start ++ flat_map after those) (sym (take_more xs i x lt))

  pub all_items : (start : List ℕ) (xs : List X) (i : ℕ) (now : List ℕ) → length xs ≤ i
      → now ≡ start ++ flat_map after (take i xs) → now ≡ start ++ flat_map after xs
  all_items start xs i now done are = are ∙ ap (λ (l : List X). start ++ flat_map after l) (take_all i xs done)

  -- ---- numbers

  abbrev pub HaveNumbers : List X → Type 0
  HaveNumbers xs = ItemsHaveNumbers (items_of (map json xs))

  numbers_push : (xs : List X) (x : X) → HaveNumbers xs → HasNumbers (json x) → HaveNumbers (xs ++ x ∷ [])
  numbers_push [] x h k = (k, tt)
  numbers_push (y ∷ ys) x h k = (h.0, numbers_push ys x h.1 k)

  pub numbers_more : (xs : List X) (i : ℕ) (x : X) → i < length xs → x ≡ get_or xs i x → HaveNumbers (take i xs) → HasNumbers (json x)
      → HaveNumbers (take (i + 1) xs)
  numbers_more xs i x lt is so_far one =
      subst HaveNumbers (ap (λ (y : X). take i xs ++ y ∷ []) is ∙ sym (take_more xs i x lt)) (numbers_push (take i xs) x so_far one)

  pub numbers_all : (xs : List X) (i : ℕ) → length xs ≤ i → HaveNumbers (take i xs) → HaveNumbers xs
  numbers_all xs i done so_far = subst HaveNumbers (take_all i xs done) so_far

  -- ---- the first item, and those after it

  pub array_text : (old begun named more now : List ℕ) (first : X) (rest xs : List X) → begun ≡ old ++ codes "["
      → named ≡ begun ++ json_text (json first) → more ≡ named ++ flat_map after rest → now ≡ more ++ codes "]" → xs ≡ first ∷ rest
      → now ≡ old ++ json_text (array_json json xs)
  array_text old begun named more now first rest xs begins names goes ends are =
      ends ∙ ap (λ l. l ++ codes "]") goes ∙ append_assoc named (flat_map after rest) (codes "]")
      ∙ ap (λ l. named ++ l) (rest_text rest) ∙ ap (λ l. l ++ items_text (codes ",") (items_of (map json rest))) names
      ∙ append_assoc begun (json_text (json first)) _ ∙ ap (λ l. l ++ (json_text (json first) ++ items_text (codes ",") (items_of (map json rest)))) begins
      ∙ append_assoc old (codes "[") _ ∙ ap (λ (l : List X). old ++ json_text (array_json json l)) (sym are)

  pub array_numbers : (first : X) (rest xs : List X) → HasNumbers (json first) → HaveNumbers rest → xs ≡ first ∷ rest
      → HasNumbers (array_json json xs)
  array_numbers first rest xs one more are = subst HaveNumbers (sym are) (one, more)
