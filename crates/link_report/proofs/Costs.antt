-- Costs as they are shown.
use Rattle.std.proofs.Common.{◌≡◌, ℕ, List, [], ◌∷◌, ◌++◌, codes, decimal, map, Result, append_assoc, refl, ap, ◌∙◌}
use Rattle.std.specs.Prelude.{OnOk}
use Rattle.std.proofs.lemmas.Result.{on_ok_weaker}
use Rattle.link_report.specs.declared.link_text.Cost.{Cost}
use Rattle.link_report.specs.LinkTexts.{back_text, slashed}

abbrev pub cost_text : Cost → List ℕ
cost_text cost = decimal cost.0

abbrev pub cost_of : ℕ → Cost
cost_of cost = record { 0 = cost }

-- the numbers of costs
numbers : (costs : List ℕ) → map cost_text (map cost_of costs) ≡ map decimal costs
numbers [] = refl
numbers (cost ∷ costs) = ap (λ texts. decimal cost ∷ texts) (numbers costs)

-- costs back, after their word
pub back_shown : {T E : Type 0} (result : Result T E) (old word now costs : List ℕ) (shown : List Cost) → shown ≡ map cost_of costs
    → word ≡ old ++ codes ", back " → OnOk result (now ≡ word ++ slashed (map cost_text shown)) → OnOk result (now ≡ old ++ back_text costs)
back_shown result old word now costs shown are begun =
    on_ok_weaker result
    (λ pushed. pushed ∙ ap (λ l. l ++ slashed (map cost_text shown)) begun ∙ append_assoc old (codes ", back ") (slashed (map cost_text shown))
    ∙ ap (λ (all : List Cost). old ++ (codes ", back " ++ slashed (map cost_text all))) are
    ∙ ap (λ texts. old ++ (codes ", back " ++ slashed texts)) (numbers costs))
