-- The rows of a text, one after another.
use Rattle.std.proofs.Common.{◌≡◌, List, [], ◌∷◌, ◌++◌, append_assoc, refl, sym, ap, ◌∙◌}
use Rattle.std.proofs.lemmas.List.{append-nil}
use Rattle.findings.specs.declared.part.Part.{Part}
use Rattle.frr_text.specs.Words.{Word}
use Rattle.frr_text.specs.Rows.{rows_at, rows_in}

module _ {A : Type 0} where
  step : (word : Word) (text : List Word) → rows_in {A = A} (word ∷ text) ≡ rows_at (word ∷ text) ++ rows_in text
  unfolding rows_in
  step word text = refl

  nothing : rows_in {A = A} [] ≡ []
  unfolding rows_in
  nothing = refl

  pub rows_next : (before after all : List (Part A)) (here : List Word) (word : Word) (text : List Word) → after ≡ before ++ rows_at here
      → here ≡ word ∷ text → before ++ rows_in here ≡ all → after ++ rows_in text ≡ all
  rows_next before after all here word text added e h =
      ap (λ (x : List (Part A)). x ++ rows_in text) added
      ∙ append_assoc before (rows_at here) (rows_in text)
      ∙ ap (λ (rest : List (Part A)). before ++ rest)
      (ap (λ (x : List Word). rows_at x ++ rows_in text) e ∙ sym (step word text) ∙ ap rows_in (sym e))
      ∙ h

  pub rows_end : (before all : List (Part A)) (here : List Word) → here ≡ [] → before ++ rows_in here ≡ all → before ≡ all
  rows_end before all here e h =
      sym (append-nil before) ∙ ap (λ (rest : List (Part A)). before ++ rest) (sym nothing ∙ ap rows_in (sym e)) ∙ h
