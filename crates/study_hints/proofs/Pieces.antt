-- Pieces of a text, one after another.
use Rattle.std.proofs.Common.{◌≡◌, ℕ, ◌+◌, ◌<◌, ◌≤◌, List, [], ◌∷◌, ◌++◌, length, map, take, get_or, cond, Option, Some, Result, Ok, Err, sym, ap, ◌∙◌}
use Rattle.std.specs.Prelude.{flat_map, is_ok, OnOk}
use Rattle.std.proofs.lemmas.List.{append_assoc, take_more, take_all, flat_map_more}
use Rattle.std.proofs.lemmas.List.Folds.{flat_map-map}
use Rattle.std.proofs.lemmas.Grind.{flat_map-append}

-- what holds of a call that went well
pub on_ok : {T E P Q : Type 0} (result : Result T E) → (P → Q) → OnOk result P → OnOk result Q
on_ok (Ok t) f p = f p
on_ok (Err e) f p = p

module _ {X : Type 0} (piece : List ℕ → List ℕ) (text : X → List ℕ) (start : List ℕ) (xs : List X) (i : ℕ) where
  abbrev pub pieces : List ℕ
  pieces = start ++ flat_map piece (map text (take i xs))

  -- one more piece
  pub one_more : (x : X) (so_far next : List ℕ) → i < length xs → x ≡ get_or xs i x → so_far ≡ pieces → next ≡ so_far ++ piece (text x)
      → next ≡ start ++ flat_map piece (map text (take (i + 1) xs))
  one_more x so_far next lt is are pushed =
      let each = λ (y : X). piece (text y) in
      pushed ∙ ap (λ l. l ++ each x) (are ∙ ap (λ l. start ++ l) (flat_map-map piece text (take i xs)))
      ∙ flat_map_more each start (take i xs) x
      ∙ ap (λ y. start ++ flat_map each (take i xs ++ y ∷ [])) is ∙ ap (λ those. start ++ flat_map each those) (sym (take_more xs i x lt))
      ∙ ap (λ l. start ++ l) (sym (flat_map-map piece text (take (i + 1) xs)))

  -- all pieces
  pub all_pieces : (now : List ℕ) → length xs ≤ i → now ≡ pieces → now ≡ start ++ flat_map piece (map text xs)
  all_pieces now done are = are ∙ ap (λ those. start ++ flat_map piece (map text those)) (take_all i xs done)

-- pieces after pieces
pub then_more : {T E : Type 0} (result : Result T E) (piece : List ℕ → List ℕ) (old begun now : List ℕ) (first more : List (List ℕ))
    → begun ≡ old ++ flat_map piece first → OnOk result (now ≡ begun ++ flat_map piece more)
    → OnOk result (now ≡ old ++ flat_map piece (first ++ more))
then_more result piece old begun now first more begins all =
    on_ok result
    (λ pushed. pushed ∙ ap (λ l. l ++ flat_map piece more) begins ∙ append_assoc old (flat_map piece first) (flat_map piece more)
    ∙ ap (λ l. old ++ l) (sym (flat_map-append piece first more)))
    all

-- a call that adds a piece where it goes well
pub added : {T E : Type 0} (result : Result T E) (begun bytes piece now : List ℕ) → bytes ≡ piece → now ≡ cond (is_ok result) (begun ++ bytes) begun
    → OnOk result (now ≡ begun ++ piece)
added (Ok t) begun bytes piece now is pushed = pushed ∙ ap (λ l. begun ++ l) is
added (Err e) begun bytes piece now is pushed = tt

-- what was found, after some words
pub offered : {X T E : Type 0} (text : Option X → List ℕ) (front piece : List ℕ) (found : Option X) (x : X) → found ≡ Some x
    → text (Some x) ≡ front ++ piece → (result : Result T E) (old begun now : List ℕ) → begun ≡ old ++ front → OnOk result (now ≡ begun ++ piece)
    → OnOk result (now ≡ old ++ text found)
offered text front piece found x is are result old begun now begins all =
    on_ok result
    (λ pushed. pushed ∙ ap (λ l. l ++ piece) begins ∙ append_assoc old front piece ∙ ap (λ l. old ++ l) (sym are) ∙ ap (λ o. old ++ text o) (sym is))
    all
