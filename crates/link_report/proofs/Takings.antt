-- What is taken of numbered items: all, or those that pass a test.
use Rattle.std.proofs.Common.{◌≡◌, ℕ, Bool, true, false, cond, List, [], ◌∷◌, ◌++◌, filter, map, refl}
use Rattle.link_report.proofs.NumberedLemmas.{Takes}

module _ {X C : Type 0} where
  pub takes_all : (f : ℕ × X → C) → Takes (map f) (λ one. f one ∷ [])
  takes_all f = record { none = refl; front = λ one rest. refl }

  pub takes_some : (p : ℕ × X → Bool) (f : ℕ × X → C) → Takes (λ l. map f (filter p l)) (λ one. cond (p one) (f one ∷ []) [])
  takes_some p f = record { none = refl; front = λ one rest. by (p one) one rest } where
    by : (b : Bool) (one : ℕ × X) (rest : List (ℕ × X))
        → map f (cond b (one ∷ filter p rest) (filter p rest)) ≡ cond b (f one ∷ []) [] ++ map f (filter p rest)
    by true one rest = refl
    by false one rest = refl
