-- The number of LSAs of a scope, and their bytes, while the observations are looked through.
use Rattle.std.proofs.Common.{◌≡◌, ℕ, ◌+◌, ◌≤◌, true, false, refl, sym, ◌∙◌, ap, List, [], ◌∷◌, ◌++◌, length, map, arith}
use Rattle.std.specs.List.{concat, filter}
use Rattle.std.proofs.lemmas.List.{append-nil, length-append, map-append}
use Rattle.std.proofs.lemmas.List.Elements.{filter-append}
use Rattle.std.proofs.lemmas.List.Folds.{concat-append}
use Rattle.lsa_instances.specs.declared.place.Scope.{Scope}
use Rattle.lsa_instances.specs.declared.observation.Observation.{Observation}
use Rattle.lsa_instances.specs.Newest.{is_of_scope, lsas_of_scope}

module _ {A : Type 0} (scope : Scope) where
  pub record IsCounted (xs : List (Observation A)) (count : ℕ) (bytes : List ℕ) : Type 0 where
    pub counted : count ≡ length (lsas_of_scope scope xs)
    pub copied : bytes ≡ concat (lsas_of_scope scope xs)
    pub few : count ≤ length xs

  taken : (xs : List (Observation A)) (x : Observation A) → is_of_scope scope x ≡ true
      → lsas_of_scope scope (xs ++ x ∷ []) ≡ lsas_of_scope scope xs ++ x.lsa ∷ []
  taken xs x is =
      let one : filter (is_of_scope scope) (x ∷ []) ≡ x ∷ [] = rw is refl in
      ap (map (λ y. y.lsa)) (filter-append (is_of_scope scope) xs (x ∷ []) ∙ ap (λ ys. filter (is_of_scope scope) xs ++ ys) one)
      ∙ map-append (λ y. y.lsa) (filter (is_of_scope scope) xs) (x ∷ [])

  left : (xs : List (Observation A)) (x : Observation A) → is_of_scope scope x ≡ false
      → lsas_of_scope scope (xs ++ x ∷ []) ≡ lsas_of_scope scope xs
  left xs x is =
      let none : filter (is_of_scope scope) (x ∷ []) ≡ [] = rw is refl in
      ap (map (λ y. y.lsa)) (filter-append (is_of_scope scope) xs (x ∷ [])
      ∙ ap (λ ys. filter (is_of_scope scope) xs ++ ys) none ∙ append-nil (filter (is_of_scope scope) xs))

  pub one_more : (xs : List (Observation A)) (x : Observation A) (count : ℕ) (bytes new : List ℕ) → is_of_scope scope x ≡ true
      → new ≡ bytes ++ x.lsa → IsCounted xs count bytes → IsCounted (xs ++ x ∷ []) (count + 1) new
  one_more xs x count bytes new is pushed h =
      let lsas = lsas_of_scope scope xs in
      let more = taken xs x is in
      record {
        counted = ap (λ n. n + 1) h.counted ∙ sym (ap length more ∙ length-append lsas (x.lsa ∷ []));
        copied =
            pushed ∙ ap (λ (o : List ℕ). o ++ x.lsa) h.copied ∙ ap (λ (o : List ℕ). concat lsas ++ o) (sym (append-nil x.lsa))
            ∙ sym (ap concat more ∙ concat-append lsas (x.lsa ∷ []));
        few = omega (arith, h.few, length-append xs (x ∷ []));
      }

  pub none_more : (xs : List (Observation A)) (x : Observation A) (count : ℕ) (bytes : List ℕ) → is_of_scope scope x ≡ false
      → IsCounted xs count bytes → IsCounted (xs ++ x ∷ []) count bytes
  none_more xs x count bytes is h =
      let same = left xs x is in
      record {
        counted = h.counted ∙ sym (ap length same);
        copied = h.copied ∙ sym (ap concat same);
        few = omega (arith, h.few, length-append xs (x ∷ []));
      }
