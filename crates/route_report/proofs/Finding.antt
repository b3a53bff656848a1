-- What is found passes the test.
use Rattle.std.proofs.Common.{◌≡◌, Bool, true, false, cond, List, [], ◌∷◌, Some, refl, sym, ap, ◌∙◌}
use Rattle.std.specs.List.{find}
use Rattle.area_graph.proofs.MemberLemmas.{Some-same}

pub find_passes : {X : Type 0} (p : X → Bool) (xs : List X) (x : X) → find p xs ≡ Some x → p x ≡ true
find_passes p [] x h = absurd (cc)
find_passes {X} p (y ∷ ys) x h = by (p y) refl (λ found. find_passes p ys x found) h
  where
    by : (b : Bool) → p y ≡ b → (find p ys ≡ Some x → p x ≡ true) → cond b (Some y) (find p ys) ≡ Some x → p x ≡ true
    by true is later found = ap p (sym (Some-same found)) ∙ is
    by false is later found = later found
