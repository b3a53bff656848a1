-- What all members of a list have, the least of them has.
use Rattle.std.proofs.Common.{Bool, true, false, cond, List, [], ◌∷◌, ◌≡◌, Option, Some, None, Bor, IfSome, sym, subst}
use Rattle.std.specs.List.{All, filter}
use Rattle.std.specs.Option.{option_copied}
use Rattle.std.specs.Ordering.{is_lt}
use Rattle.std.specs.declared.cmp.Ordering.{Ordering}
use Rattle.std.proofs.lemmas.List.Elements.{All-filter, All-head, All-tail}
use Rattle.area_graph.specs.Least.{least, lesser}

module _ {K : Type 0} (R : K → K → Ordering) (P : K → Type 0) where
  lesser_has : (x : K) (other : Option K) → P x → IfSome other P → P (lesser R x other)
  lesser_has x None one all = one
  lesser_has x (Some y) one all = by (is_lt (R y x))
    where
      by : (b : Bool) → P (cond b y x)
      by true = all
      by false = one

  least_has : (xs : List K) → All P xs → IfSome (least R xs) P
  least_has [] all = tt
  least_has (x ∷ xs) all = lesser_has x (least R xs) (All-head P x xs all) (least_has xs (All-tail P x xs all))

  -- the least of those that pass a test, read through its reference
  pub first_has : (p : K → Bool) (xs : List K) (r : Option (Bor K)) → All P xs → option_copied r ≡ least R (filter p xs) → IfSome r (λ x. P x.now)
  first_has p xs None all same = tt
  first_has p xs (Some x) all same = subst (λ (o : Option K). IfSome o P) (sym same) (least_has (filter p xs) (All-filter p P xs all))
