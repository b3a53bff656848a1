-- The longest match of an address, when shorter and shorter prefixes are looked up.
use Rattle.std.proofs.Common.{◌≡◌, ℕ, zero, suc, ◌<◌, ◌≤◌, Option, None, Some, refl, sym, ap, ◌∙◌, subst, arith, ⊎_elim}
use Rattle.std.specs.Prelude.{MatchOption}
use Rattle.std.specs.Option.{option_or}
use Rattle.std.proofs.lemmas.Bool.{cases_eq}
use Rattle.lsa_codec.specs.declared.address.Addr.{Addr}
use Rattle.lsa_codec.specs.Prefix.{Net, masked}
use Rattle.forwarding.specs.Matches.{IsLongest, NoneLonger, longest_match, longest_within}

module _ {E : Type 0} (entry : Net → Option E) (address : Addr) where
  -- no prefix of these lengths has an entry
  within_none : (most : ℕ) → ((len : ℕ) → len ≤ most → entry (masked address len) ≡ None) → longest_within entry address most ≡ None
  within_none zero none = none 0 (omega arith)
  within_none (suc most) none =
      ap (λ (o : Option E). option_or o (longest_within entry address most)) (none (suc most) (omega arith))
      ∙ within_none most (λ len le. none len (omega arith))

  -- one has, and no longer one
  within_some : (most len : ℕ) (e : E) → len ≤ most → entry (masked address len) ≡ Some e
      → ((longer : ℕ) → len < longer → longer ≤ most → entry (masked address longer) ≡ None) → longest_within entry address most ≡ Some e
  within_some zero len e le at none =
      let same : len ≡ 0 = omega arith in
      subst (λ (n : ℕ). entry (masked address n) ≡ Some e) same at
  within_some (suc most) len e le at none =
      ⊎_elim
      (λ same. ap (λ (o : Option E). option_or o (longest_within entry address most))
      (subst (λ (n : ℕ). entry (masked address n) ≡ Some e) same at))
      (λ other. ap (λ (o : Option E). option_or o (longest_within entry address most)) (none (suc most) (omega arith) (omega arith))
      ∙ within_some most len e (omega arith) at (λ longer lt le. none longer lt (omega arith)))
      (cases_eq len (suc most))

  -- the longest of these lengths, in words
  abbrev IsWithin : ℕ → Option E → Type 0
  IsWithin most found =
      MatchOption found ((len : ℕ) → len ≤ most → entry (masked address len) ≡ None)
      (λ e. (len : ℕ) × (len ≤ most) × (entry (masked address len) ≡ Some e)
      × ((longer : ℕ) → len < longer → longer ≤ most → entry (masked address longer) ≡ None))

  one_more : (most : ℕ) → entry (masked address (suc most)) ≡ None → (o : Option E) → IsWithin most o → IsWithin (suc most) o
  one_more most last None none = λ len le.
      ⊎_elim (λ same. subst (λ (n : ℕ). entry (masked address n) ≡ None) (sym same) last) (λ other. none len (omega arith)) (cases_eq len (suc most))
  one_more most last (Some e) (len, le, at, none) = (
    len,
    omega arith,
    at,
    λ longer lt most_is. ⊎_elim (λ same. subst (λ (n : ℕ). entry (masked address n) ≡ None) (sym same) last) (λ other. none longer lt (omega arith))
        (cases_eq longer (suc most)),
  )

  within_is : (most : ℕ) → IsWithin most (longest_within entry address most)
  within_is zero = by (entry (masked address 0)) refl
    where
      by : (o : Option E) → entry (masked address 0) ≡ o → IsWithin 0 o
      by None is = λ len le. (let same : 0 ≡ len = omega arith in subst (λ (n : ℕ). entry (masked address n) ≡ None) same is)
      by (Some e) is = (0, omega arith, is, λ longer lt most. absurd (omega arith))
  within_is (suc most) = by (entry (masked address (suc most))) refl (within_is most)
    where
      by : (o : Option E) → entry (masked address (suc most)) ≡ o → IsWithin most (longest_within entry address most)
          → IsWithin (suc most) (option_or o (longest_within entry address most))
      by None is rest = one_more most is (longest_within entry address most) rest
      by (Some e) is rest = (suc most, omega arith, is, λ longer lt le. absurd (omega arith))

  pub longest_is : IsLongest entry address (longest_match entry address)
  unfolding longest_match
  longest_is = within_is 32

  pub match_found : (len : ℕ) (e : E) → len ≤ 32 → entry (masked address len) ≡ Some e → NoneLonger entry address len
      → Some e ≡ longest_match entry address
  unfolding longest_match
  match_found len e le at none = sym (within_some 32 len e le at none)

  pub match_none : ((len : ℕ) → len ≤ 32 → entry (masked address len) ≡ None) → None ≡ longest_match entry address
  unfolding longest_match
  match_none none = sym (within_none 32 none)
