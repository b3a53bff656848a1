-- An object whose members are none or several.
use Rattle.std.proofs.Common.{◌≡◌, ℕ, List, [], ◌∷◌, length, Some, None, Bor, refl}
use Rattle.json.specs.Value.{members_view}
use Rattle.json.specs.declared.value.Value.{Value}
use Rattle.frr_json.specs.ParsedDocuments.{only_member}

module _ {A : Type 0} where
  pub not_one : (members : List (Bor (List ℕ) × Value A)) → (length members ≡ 1 → ⊥) → None ≡ only_member (Some (members_view members))
  unfolding only_member
  not_one [] differ = refl
  not_one (m ∷ []) differ = absurd (differ refl)
  not_one (m ∷ n ∷ members) differ = refl
