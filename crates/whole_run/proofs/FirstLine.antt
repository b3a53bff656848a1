-- The first line of a text, by the place of its end.
use Rattle.std.proofs.Common.{◌≡◌, ℕ, ◌+◌, ◌-◌, ◌<◌, List, [], ◌∷◌, sym, ap, ◌∙◌, subst, false, length, get_or, take, drop, arith, eq-eqb, Bool, eqb}
use Rattle.std.specs.List.{slice_split, position_or_len}
use Rattle.std.proofs.lemmas.List.{take_rest}
use Rattle.std.proofs.lemmas.List.Elements.{All-from_get_or}
use Rattle.std.proofs.lemmas.List.Splits.{slice_split_first, slice_split_none}
use Rattle.std.proofs.lemmas.List.Sums.{position_or_len_is}
use Rattle.std.proofs.lemmas.Bool.{ne_eqb}
use Rattle.whole_run.specs.Run.{lines_of}

abbrev is_end : ℕ → Bool
is_end byte = eqb byte 10

no_end_before : (text : List ℕ) (i : ℕ) → ((k : ℕ) → k < i → get_or text k 0 ≡ 10 → ⊥) → (k : ℕ) → k < i → is_end (get_or text k 0) ≡ false
no_end_before text i before k lt = ne_eqb _ _ (before k lt)

pub lines_first : (text : List ℕ) (i : ℕ) → i < length text → ((k : ℕ) → k < i → get_or text k 0 ≡ 10 → ⊥) → get_or text i 0 ≡ 10
    → lines_of text ≡ take i text ∷ lines_of (take (length text - (i + 1)) (drop (i + 1) text))
lines_first text i within before here =
    let at : position_or_len is_end text ≡ i =
    position_or_len_is is_end text i 0 (omega arith) (no_end_before text i before) (λ _. eq-eqb (get_or text i 0) 10 here) in
    let split = slice_split_first is_end text 0 (subst (λ n. n < length text) (sym at) within) in
    split ∙ ap (λ n. take n text ∷ slice_split is_end (drop (n + 1) text)) at
    ∙ ap (λ rest. take i text ∷ slice_split is_end rest) (sym (take_rest text (i + 1)))

pub lines_only : (text : List ℕ) → ((k : ℕ) → k < length text → get_or text k 0 ≡ 10 → ⊥) → lines_of text ≡ text ∷ []
lines_only text before = slice_split_none is_end text
    (All-from_get_or (λ byte. is_end byte ≡ false) text 0 (no_end_before text (length text) before))
