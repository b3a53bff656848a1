-- One thing after another, until its text is the word.
use Rattle.std.proofs.Common.{◌≡◌, ℕ, suc, ◌+◌, ◌<◌, ◌≤◌, true, false, cond, List, ◌∷◌, length, get_or, drop, add-one, Some, None, refl, sym, ap, ◌∙◌}
use Rattle.std.specs.Prelude.{bytes_eq}
use Rattle.std.proofs.lemmas.List.{drop_all}
use Rattle.std.proofs.Math.Seq.{drop-cons}
use Rattle.study_words.specs.Named.{named}

module _ {E : Type 0} (text : E → List ℕ) (es : List E) (i : ℕ) (word : List ℕ) where
  here : (e : E) (others : List E) → named text (e ∷ others) word ≡ cond (bytes_eq word (text e)) (Some e) (named text others word)
  unfolding named
  here e others = refl

  at : (e : E) → e ≡ get_or es i e → i < length es
      → named text (drop i es) word ≡ cond (bytes_eq word (text e)) (Some e) (named text (drop (i + 1) es) word)
  at e is lt =
      ap (λ (those : List E). named text those word) (drop-cons es i e lt ∙ ap (λ x. x ∷ drop (suc i) es) (sym is))
      ∙ here e (drop (suc i) es)
      ∙ ap (λ (n : ℕ). cond (bytes_eq word (text e)) (Some e) (named text (drop n es) word)) (sym (add-one i))

  pub passed : (e : E) → e ≡ get_or es i e → i < length es → bytes_eq word (text e) ≡ false
      → named text (drop i es) word ≡ named text (drop (i + 1) es) word
  passed e is lt h = at e is lt ∙ ap (λ b. cond b (Some e) (named text (drop (i + 1) es) word)) h

  pub found : (e : E) → e ≡ get_or es i e → i < length es → bytes_eq word (text e) ≡ true → named text (drop i es) word ≡ Some e
  found e is lt h = at e is lt ∙ ap (λ b. cond b (Some e) (named text (drop (i + 1) es) word)) h

  pub missed : length es ≤ i → named text (drop i es) word ≡ None
  unfolding named
  missed le = ap (λ (those : List E). named text those word) (drop_all i es le)
