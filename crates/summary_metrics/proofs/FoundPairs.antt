-- The value of a router at a place.
use Rattle.std.proofs.Common.{◌≡◌, ℕ, ◌<◌, List, length, get_or, sym, subst, ◌∙◌}
use Rattle.std.specs.List.{Contains}
use Rattle.std.proofs.lemmas.List.{get_or_read}
use Rattle.lsa_codec.specs.declared.address.RouterId.{RouterId}

module _ {V : Type 0} (xs seen : List (RouterId × V)) (is_seen : xs ≡ seen) where
  pub found_pair : (i : ℕ) (router : RouterId) (pair : RouterId × V) → pair ≡ get_or xs i pair → i < length xs → pair.0 ≡ router
      → Contains seen (router, pair.1)
  found_pair i router pair is within same =
      subst (λ (l : List (RouterId × V)). Contains l (router, pair.1)) is_seen
      (i, within, sym (get_or_read xs i pair within is (router, pair.1)) ∙ (λ j. (same j, pair.1)))
