-- What tests and lookups of the code say.
use Rattle.std.proofs.Common.{◌≡◌, ◌∙◌, ℕ, Bool, true, false, Bor, IfSome, List, Option, None, Some, length, refl, sym, ap, arith}
use Rattle.std.specs.Prelude.{◌==◌, ◌&&◌, MatchOption, not, ⊤}
use Rattle.std.specs.List.{slice_get}
use Rattle.std.specs.Option.{is_some, option_copied, option_map}
use Rattle.std.proofs.lemmas.Bool.{eqb-true, false≢true, ltb-false, ltb-true}
use Rattle.std.proofs.lemmas.Option.{slice_get_past, slice_get_read}
use Rattle.lsa_codec.specs.Prefix.{Net}
use Rattle.lsa_codec.specs.declared.address.RouterId.{RouterId}
use lib.Dec.{ltb}
use lib.ListN.{get_or}

pub same_net : (x y : Net) (ne : Bool) → ne ≡ not ((x.addr.0 == y.addr.0) && (x.len == y.len)) → ne ≡ false → x ≡ y
same_net x y ne is equal = by (x.addr.0 == y.addr.0) (x.len == y.len) refl refl (sym is ∙ equal)
  where
    by : (a b : Bool) → (x.addr.0 == y.addr.0) ≡ a → (x.len == y.len) ≡ b → not (a && b) ≡ false → x ≡ y
    by true true first second h =
        ap (λ (n : ℕ). let net : Net = record { addr = record { 0 = n }; len = x.len } in net) (eqb-true x.addr.0 y.addr.0 first)
        ∙ ap (λ (n : ℕ). let net : Net = record { addr = y.addr; len = n } in net) (eqb-true x.len y.len second)
    by true false first second h = absurd (false≢true (sym h))
    by false b first second h = absurd (false≢true (sym h))

pub same_router : (x y : RouterId) (ne : Bool) → ne ≡ not (x.0 == y.0) → ne ≡ false → x ≡ y
same_router x y ne is equal = by (x.0 == y.0) refl (sym is ∙ equal)
  where
    by : (a : Bool) → (x.0 == y.0) ≡ a → not a ≡ false → x ≡ y
    by true same h = ap (λ (n : ℕ). let router : RouterId = record { 0 = n } in router) (eqb-true x.0 y.0 same)
    by false same h = absurd (false≢true (sym h))

-- the item at a place, if there is one
pub item_found : {X : Type 0} (xs : List X) (i : ℕ) (o : Option (Bor X)) → is_some o ≡ ltb i (length xs) → IfSome o (λ x. x.now ≡ get_or xs i x.now)
    → option_copied o ≡ slice_get xs i
item_found xs i None none at = sym (slice_get_past xs i (omega (arith, ltb-false _ _ (sym none))))
item_found xs i (Some x) some at = sym (slice_get_read xs _ i x.now refl (ltb-true _ _ (sym some)) at)

pub some_copied : {X : Type 0} (o : Option (Bor X)) → is_some o ≡ true → option_map Some (option_copied o) ≡ Some (option_copied o)
some_copied None none = absurd (false≢true none)
some_copied (Some x) some = refl

pub match_weaker : {X : Type 0} (o : Option X) (P Q : X → Type 0) → ((x : X) → P x → Q x) → MatchOption o ⊤ P → MatchOption o ⊤ Q
match_weaker None P Q weaker m = tt
match_weaker (Some x) P Q weaker m = weaker x m
