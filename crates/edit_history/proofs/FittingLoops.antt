-- Swaps that are tested one after another: whether they keep apart.
use Rattle.std.proofs.Common.{◌≡◌, ℕ, suc, ◌<◌, ◌≤◌, Bool, true, false, List, [], ◌∷◌, length, map, drop, get_or, refl, sym, ap, ◌∙◌}
use Rattle.std.specs.Prelude.{◌&&◌, ◌||◌, not}
use Rattle.std.specs.List.{list_any, list_all}
use Rattle.std.proofs.Math.Seq.{drop-cons}
use Rattle.std.proofs.lemmas.List.{drop_all}
use Rattle.std.proofs.lemmas.List.Folds.{list_all-map}
use Rattle.lsdb.specs.Slots.{Slots, lists_of}
use Rattle.edit_history.specs.Exchange.{SwapData}
use Rattle.edit_history.specs.Fitting.{are_apart, fits, is_rekeyed, share_key}
use Rattle.edit_history.specs.Rules.{Change}
use Rattle.edit_history.specs.steps.Happening.{swaps_fit}
use Rattle.edit_history.specs.steps.Plans.{planned_change}

any_map : {X Y : Type 0} (p : Y → Bool) (f : X → Y) (xs : List X) → list_any p (map f xs) ≡ list_any (λ x. p (f x)) xs
any_map p f [] = refl
any_map p f (x ∷ xs) = ap (λ (b : Bool). p (f x) || b) (any_map p f xs)

module _ (d : Slots) where
  -- no later swap brings the key that one brings
  abbrev pub keeps_apart : SwapData → List SwapData → Bool
  keeps_apart s later =
      let c : Change = planned_change d s in
      not (is_rekeyed c.old c.new && list_any (λ (other : SwapData). share_key s.other other.other) later)

  abbrev pub apart_from : List SwapData → ℕ → Bool
  apart_from ss i = are_apart (map (planned_change d) (drop i ss))

  one_apart : (s : SwapData) (later : List SwapData)
      → are_apart (map (planned_change d) (s ∷ later)) ≡ (keeps_apart s later && are_apart (map (planned_change d) later))
  one_apart s later =
      let c : Change = planned_change d s in
      ap (λ (b : Bool). not (is_rekeyed c.old c.new && b) && are_apart (map (planned_change d) later))
      (any_map (λ (o : Change). share_key c.new o.new) (planned_change d) later)

  unrolled : (ss : List SwapData) (i : ℕ) (s : SwapData) (later : List SwapData) (b : Bool) → i < length ss → s ≡ get_or ss i s → later ≡ drop (suc i) ss
      → b ≡ keeps_apart s later → apart_from ss i ≡ (b && apart_from ss (suc i))
  unrolled ss i s later b below here follow is =
      ap (λ (xs : List SwapData). are_apart (map (planned_change d) xs))
      (drop-cons ss i s below ∙ ap (λ (x : SwapData). x ∷ drop (suc i) ss) (sym here) ∙ ap (λ (xs : List SwapData). s ∷ xs) (sym follow))
      ∙ one_apart s later
      ∙ ap (λ (t : Bool). t && are_apart (map (planned_change d) later)) (sym is)
      ∙ ap (λ (xs : List SwapData). b && are_apart (map (planned_change d) xs)) follow

  -- one more swap keeps apart
  pub one_passed : (ss : List SwapData) (i next : ℕ) (s : SwapData) (later : List SwapData) (b : Bool) → i < length ss → next ≡ suc i → s ≡ get_or ss i s
      → later ≡ drop (suc i) ss → b ≡ keeps_apart s later → b ≡ true → apart_from ss i ≡ are_apart (map (planned_change d) ss)
      → apart_from ss next ≡ are_apart (map (planned_change d) ss)
  one_passed ss i next s later b below follows here follow is holds so_far =
      ap (apart_from ss) follows
      ∙ sym (ap (λ (t : Bool). t && apart_from ss (suc i)) holds)
      ∙ sym (unrolled ss i s later b below here follow is) ∙ so_far

  -- one does not
  pub one_shares : (ss : List SwapData) (i : ℕ) (s : SwapData) (later : List SwapData) (b : Bool) → i < length ss → s ≡ get_or ss i s
      → later ≡ drop (suc i) ss → b ≡ keeps_apart s later → b ≡ false → apart_from ss i ≡ are_apart (map (planned_change d) ss)
      → false ≡ are_apart (map (planned_change d) ss)
  one_shares ss i s later b below here follow is fails so_far =
      sym (ap (λ (t : Bool). t && apart_from ss (suc i)) fails) ∙ sym (unrolled ss i s later b below here follow is) ∙ so_far

  -- all do
  pub all_passed : (ss : List SwapData) (i : ℕ) → length ss ≤ i → apart_from ss i ≡ are_apart (map (planned_change d) ss)
      → true ≡ are_apart (map (planned_change d) ss)
  all_passed ss i end so_far = sym (ap (λ (xs : List SwapData). are_apart (map (planned_change d) xs)) (drop_all i ss end)) ∙ so_far

  -- both tests
  pub both_tested : (ss : List SwapData) → (list_all (λ (s : SwapData). fits (lists_of d) (planned_change d s)) ss && are_apart (map (planned_change d) ss))
      ≡ swaps_fit d ss
  both_tested ss =
      ap (λ (b : Bool). b && are_apart (map (planned_change d) ss)) (sym (list_all-map (fits (lists_of d)) (planned_change d) ss))
