-- Lists under new numbers.
use Rattle.std.proofs.Common.{◌≡◌, ℕ, ◌+◌, ◌<◌, Option, None, Some, List, [], ◌∷◌, ◌++◌, length, map, get_or, set, sym, ap, ◌∙◌, arith, ⊎_elim}
use Rattle.std.proofs.lemmas.Bool.{cases_eq}
use Rattle.std.proofs.lemmas.Option.{same_Some}
use Rattle.std.proofs.lemmas.List.{get_or_push, get_or-set_other, get_or-set_same, length_push, length-map, map-append}
use Rattle.std.specs.declared.vec.Vec.{Vec}
use Rattle.next_hops.specs.declared.hop.Hop.{Hop}
use Rattle.next_hops.specs.steps.Shared.{Keeps, list_in}

module _ {A : Type 0} where
  pub list_in-put : (lists : List (Vec Hop A)) (list : Vec Hop A) → list_in (lists ++ list ∷ []) (length lists) ≡ list.items
  list_in-put lists list =
      ap (λ (xs : List (List Hop)). get_or xs (length lists) []) (map-append (λ x. x.items) lists (list ∷ []))
      ∙ get_or_push (map (λ x. x.items) lists) list.items [] (length lists) (length-map lists (λ x. x.items))

  -- each list with a new number is the same under it as under the old one
  abbrev pub AreSame : List (Vec Hop A) → List (Vec Hop A) → List (Option ℕ) → Type 0
  AreSame lists kept places = (n p : ℕ) → get_or places n None ≡ Some p → (p < length kept) × (list_in kept p ≡ list_in lists n)

  pub AreSame-put : (lists kept new : List (Vec Hop A)) (places : List (Option ℕ)) (number : ℕ) (list : Vec Hop A) → number < length places
      → new ≡ kept ++ list ∷ [] → list.items ≡ list_in lists number → Keeps kept new → AreSame lists kept places
      → AreSame lists new (set places number (Some (length kept)))
  AreSame-put lists kept new places number list within is items keeps same n p at =
      ⊎_elim
      (λ here. let place : Some (length kept) ≡ Some p = sym (get_or-set_same places number (Some (length kept)) None within)
      ∙ ap (λ (m : ℕ). get_or (set places number (Some (length kept))) m None) (sym here) ∙ at in
      let last : length kept ≡ p = same_Some (length kept) p place in
      let size : length new ≡ length kept + 1 = ap (λ (xs : List (Vec Hop A)). length xs) is ∙ length_push kept list in (
        omega arith,
        ap (λ (m : ℕ). list_in new m) (sym last) ∙ ap (λ (xs : List (Vec Hop A)). list_in xs (length kept)) is
            ∙ list_in-put kept list ∙ items ∙ ap (λ (m : ℕ). list_in lists m) (sym here),
      ))
      (λ other. let old = same n p (sym (get_or-set_other places number n (Some (length kept)) None other) ∙ at) in
      let low : p < length kept = old.0 in
      let more = keeps.no_less in (omega arith, keeps.same p low ∙ old.1))
      (cases_eq n number)
