-- Within a scope the keys of the newest rise.
use Rattle.std.proofs.Common.{◌≡◌, ℕ, sym, ◌∙◌, ap, List, [], ◌∷◌, map, get_or, true, arith}
use Rattle.std.specs.Prelude.{All, AllPairs}
use Rattle.std.specs.List.{filter}
use Rattle.std.specs.Ordering.{ordering_then}
use Rattle.std.specs.declared.cmp.Ordering.{Ordering}
use Rattle.std.specs.declared.cmp.Ordering.TheVariants.{Less, Equal}
use Rattle.std.proofs.lemmas.Cmp.{tied_itself}
use Rattle.std.proofs.lemmas.List.Elements.{All-head, All-map, All-tail, filter_passes}
use Rattle.std.proofs.lemmas.List.Kept.{AllPairs-cons, AllPairs-filter}
use Rattle.lsa_codec.specs.Key.{key_of}
use Rattle.lsa_codec.specs.Order.{key_cmp}
use Rattle.lsa_instances.specs.declared.keeping.FlushedLsas.{FlushedLsas}
use Rattle.lsa_instances.specs.declared.place.Scope.{Scope}
use Rattle.lsa_instances.specs.declared.observation.Observation.{Observation}
use Rattle.lsa_instances.specs.Order.{place_cmp, place_of, scope_cmp}
use Rattle.lsa_instances.specs.Newest.{AreNewest, is_of_scope, lsas_of_scope}
use Rattle.lsa_instances.proofs.Comparing.{eq_true}
use Rattle.lsa_instances.proofs.OrderLemmas.{scope_exact, scope_total}
use Rattle.lsa_instances.proofs.SameValuesLemmas.{pairs_head, pairs_tail}

second_decides : (r s : Ordering) → r ≡ Equal → ordering_then r s ≡ Less → s ≡ Less
second_decides r s e h = ap (λ o. ordering_then o s) (sym e) ∙ h

abbrev KeysRise : List ℕ → List ℕ → Type 0
KeysRise a b = key_cmp (key_of a) (key_of b) ≡ Less

module _ {A : Type 0} (scope : Scope) where
  abbrev Before : Observation A → Observation A → Type 0
  Before x y = place_cmp (place_of x) (place_of y) ≡ Less

  abbrev IsOfScope : Observation A → Type 0
  IsOfScope x = is_of_scope scope x ≡ true

  by_key : (x y : Observation A) → Before x y → IsOfScope x → IsOfScope y → KeysRise x.lsa y.lsa
  by_key x y b p q =
      let e : x.scope ≡ scope = scope_exact x.scope scope (eq_true _ p) in
      let f : y.scope ≡ scope = scope_exact y.scope scope (eq_true _ q) in
      let tied : scope_cmp x.scope y.scope ≡ Equal = ap (λ s. scope_cmp x.scope s) (f ∙ sym e) ∙ tied_itself scope_total x.scope in
      second_decides (scope_cmp x.scope y.scope) (key_cmp (key_of x.lsa) (key_of y.lsa)) tied b

  rise : (xs : List (Observation A)) → AllPairs Before xs → All IsOfScope xs → AllPairs KeysRise (map (λ x. x.lsa) xs)
  rise [] p s = λ i j d l m. absurd (omega (arith, m))
  rise (x ∷ xs) p s =
      let here = All-head IsOfScope x xs s in
      let rest = All-tail IsOfScope x xs s in
      let first = pairs_head Before x xs p in
      AllPairs-cons KeysRise x.lsa (map (λ y. y.lsa) xs)
      (All-map (KeysRise x.lsa) (λ (y : Observation A). y.lsa) xs (λ k d l. by_key x (get_or xs k d) (first k d l) here (rest k d l)))
      (rise xs (pairs_tail Before x xs p) rest)

  pub keys_rise : (flushed : FlushedLsas) (reported newest : List (Observation A)) → AreNewest flushed reported newest
      → AllPairs KeysRise (lsas_of_scope scope newest)
  keys_rise flushed reported newest n =
      let of_scope = filter (is_of_scope scope) newest in
      rise of_scope (AllPairs-filter Before (is_of_scope scope) newest n.order) (filter_passes (is_of_scope scope) newest)
