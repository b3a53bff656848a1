-- What `get` returns.
use Rattle.std.proofs.Common.{◌≡◌, ℕ, List, Option, Some, None, Bor, IfSome, length, sym, refl, arith}
use Rattle.std.specs.List.{slice_get}
use Rattle.std.specs.Option.{is_some, option_copied}
use Rattle.std.proofs.lemmas.Bool.{ltb-true, ltb-false}
use Rattle.std.proofs.lemmas.Option.{slice_get_past, slice_get_read}
use lib.Dec.{ltb}
use lib.ListN.{get_or}

-- what `get` returns is the element at the index
pub item_found : {X : Type 0} (xs : List X) (i : ℕ) (o : Option (Bor X)) → is_some o ≡ ltb i (length xs) → IfSome o (λ x. x.now ≡ get_or xs i x.now)
    → option_copied o ≡ slice_get xs i
item_found xs i None none at = sym (slice_get_past xs i (omega (arith, ltb-false _ _ (sym none))))
item_found xs i (Some x) some at = sym (slice_get_read xs _ i x.now refl (ltb-true _ _ (sym some)) at)
