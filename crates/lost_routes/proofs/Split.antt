-- Members of a list that a test keeps, and those that it does not.
use Rattle.std.proofs.Common.{◌≡◌, ◌∙◌, ◌⊎◌, Bool, true, false, List, inl, inr, refl, sym, ap}
use Rattle.std.specs.Prelude.{not}
use Rattle.std.specs.List.{Contains, filter}
use Rattle.std.proofs.lemmas.Bool.{false≢true}
use Rattle.area_graph.proofs.MemberLemmas.{Contains-from_In, In, In-filter, In-from_Contains, filter-In}

module _ {X : Type 0} (p : X → Bool) (xs : List X) (x : X) where
  pub kept_or_not : Contains xs x → Contains (filter p xs) x ⊎ Contains (filter (λ y. not (p y)) xs) x
  kept_or_not h = by (p x) refl (In-from_Contains xs x h)
    where
      by : (b : Bool) → p x ≡ b → In xs x → Contains (filter p xs) x ⊎ Contains (filter (λ y. not (p y)) xs) x
      by true is i = inl (Contains-from_In (filter p xs) x (In-filter p xs x i is))
      by false is i = inr (Contains-from_In (filter (λ y. not (p y)) xs) x (In-filter (λ y. not (p y)) xs x i (ap not is)))

  pub is_member : (q : X → Bool) → Contains (filter q xs) x → Contains xs x
  is_member q h = Contains-from_In xs x (filter-In q xs x (In-from_Contains (filter q xs) x h)).0

  pub not_both : Contains (filter p xs) x → ¬ Contains (filter (λ y. not (p y)) xs) x
  not_both h = λ k.
      let is = (filter-In p xs x (In-from_Contains (filter p xs) x h)).1 in
      let is_not = (filter-In (λ y. not (p y)) xs x (In-from_Contains (filter (λ y. not (p y)) xs) x k)).1 in
      false≢true (sym (ap not is) ∙ is_not)
