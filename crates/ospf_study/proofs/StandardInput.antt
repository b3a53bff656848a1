-- A study that is named alone.
use Rattle.std.proofs.Common.{◌≡◌, ◌∙◌, ◌↔◌, ◌<◌, ◌≤◌, sym, ap, ℕ, Bool, List, [], ◌∷◌, Bor, get_or, length, map, inl, inr, arith}
use Rattle.std.specs.Prelude.{IsTrue, codes}
use Rattle.std.specs.Str.{bytes_eq}
use Rattle.std.proofs.lemmas.Slice.Eq.{bytes_eq-Decides}
use Rattle.ospf_study.specs.CommandLine.{IsStandardInput}

named_so : (name : List ℕ) → IsStandardInput (name ∷ []) → name ≡ codes "-"
named_so name (inl none) = absurd cc
named_so name (inr same) = cc

-- it is standard input where it has that name
pub alone : (names : List (Bor (List ℕ))) (is : Bool) (other : Bor (List ℕ)) → 1 ≤ length names → length names < 2
    → is ≡ bytes_eq (get_or names 0 other).now (codes "-") → IsTrue is ↔ IsStandardInput (map (λ (name : Bor (List ℕ)). name.now) names)
alone [] is other some few same = absurd (omega (arith, some))
alone (name ∷ []) is other some few same = (
  λ yes. inr (ap (λ (text : List ℕ). text ∷ []) ((bytes_eq-Decides name.now (codes "-")).0 (sym same ∙ yes))),
  λ input. same ∙ (bytes_eq-Decides name.now (codes "-")).1 (named_so name.now input),
)
alone (name ∷ next ∷ rest) is other some few same = absurd (omega (arith, few))
