-- What is newer by the rule of RFC 2328, 13.1, is newer in the order.
use Rattle.std.proofs.Common.{◌≡◌, ℕ, ◌+◌, ◌<◌, refl, inl, inr, List, Bool, true, false, arith}
use Rattle.std.specs.Ordering.{nat_cmp, bool_cmp, ordering_then}
use Rattle.std.specs.declared.cmp.Ordering.{Ordering}
use Rattle.std.specs.declared.cmp.Ordering.TheVariants.{Equal, Greater}
use Rattle.std.proofs.lemmas.Bool.Decides.{nat_tests}
use Rattle.lsa_instances.specs.Instance.{instance_cmp, IsNewerByRule}

above : (m n : ℕ) → n < m → nat_cmp m n ≡ Greater
above m n h = grind (arith, nat_tests)

same : (m n : ℕ) → m ≡ n → nat_cmp m n ≡ Equal
same m n h = grind (arith, nat_tests)

older : (m n : ℕ) → m + 900 < n → nat_cmp n m ≡ Greater
older m n h = above n m (omega arith)

first : (r s : Ordering) → r ≡ Greater → ordering_then r s ≡ Greater
first r s h = rw h refl

second : (r s : Ordering) → r ≡ Equal → s ≡ Greater → ordering_then r s ≡ Greater
second r s h k = rw h k

tied : (r s : Ordering) → r ≡ Equal → s ≡ Equal → ordering_then r s ≡ Equal
tied r s h k = rw h k

flag : (a b : Bool) → a ≡ true → b ≡ false → bool_cmp a b ≡ Greater
flag a b h k = rw (h, k) refl

alike : (a b : Bool) → a ≡ b → bool_cmp a b ≡ Equal
alike true true h = refl
alike false false h = refl
alike true false h = cc
alike false true h = cc

pub extends : (a b : List ℕ) → IsNewerByRule a b → instance_cmp a b ≡ Greater
extends a b (inl sequence) = first _ _ (first _ _ (above _ _ sequence))
extends a b (inr (sequence, inl checksum)) = first _ _ (second _ _ (same _ _ sequence) (above _ _ checksum))
extends a b (inr (sequence, inr (checksum, inl aged))) =
    second _ _ (tied _ _ (same _ _ sequence) (same _ _ checksum)) (first _ _ (flag _ _ aged.0 aged.1))
extends a b (inr (sequence, inr (checksum, inr younger))) =
    second _ _ (tied _ _ (same _ _ sequence) (same _ _ checksum))
    (second _ _ (alike _ _ younger.0) (first _ _ (older _ _ younger.1)))
