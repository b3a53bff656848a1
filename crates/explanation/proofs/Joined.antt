-- The lines of an explanation, one part after another.
use Rattle.std.proofs.Common.{◌≡◌, ℕ, List, ◌++◌, append_assoc, ap, ◌∙◌}
use Rattle.study_text.specs.Lists.{lines_of}
use Rattle.study_text.specs.Shown.{Called}
use Rattle.explanation.specs.Texts.{ExplanationValue, candidate_line, explanation_text, head_text, rest_line, way_line}

five : (t h c w r : List ℕ) → (((t ++ h) ++ c) ++ w) ++ r ≡ t ++ (((h ++ c) ++ w) ++ r)
five t h c w r = simp append_assoc

module _ (called : Called) (t a b c d : List ℕ) where
  pub joined : (e : ExplanationValue) → a ≡ t ++ head_text called e.route e.candidates → b ≡ a ++ lines_of (candidate_line called) e.candidates
      → c ≡ b ++ lines_of (way_line called) e.ways → d ≡ c ++ lines_of (rest_line called) e.rests → d ≡ t ++ explanation_text called e
  joined e head candidates ways rests =
      rests
      ∙ ap (λ (l : List ℕ). l ++ lines_of (rest_line called) e.rests)
      (ways ∙ ap (λ (l : List ℕ). l ++ lines_of (way_line called) e.ways) (candidates ∙ ap (λ (l : List ℕ). l ++ lines_of (candidate_line called) e.candidates) head))
      ∙ five t (head_text called e.route e.candidates) (lines_of (candidate_line called) e.candidates) (lines_of (way_line called) e.ways)
      (lines_of (rest_line called) e.rests)
