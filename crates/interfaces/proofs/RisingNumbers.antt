-- Numbers in rising order, from the last of a list on.
use Rattle.std.proofs.Common.{◌≡◌, ℕ, suc, ◌≤◌, List, length, get_or, drop, sym, ap, ◌∙◌, arith}
use Rattle.std.proofs.Math.Seq.{drop-cons}
use Rattle.std.specs.BTreeSet.{insert_key}
use Rattle.std.specs.Ordering.{nat_cmp}
use Rattle.area_graph.specs.Rising.{rising}

-- one number before them
pub rising_more : (keys xs : List ℕ) (i j d : ℕ) → i ≡ suc j → i ≤ length xs → keys ≡ rising nat_cmp (drop i xs)
    → insert_key nat_cmp keys (get_or xs j d) ≡ rising nat_cmp (drop j xs)
rising_more keys xs i j d is below before =
    ap (λ ks. insert_key nat_cmp ks (get_or xs j d)) (before ∙ ap (λ n. rising nat_cmp (drop n xs)) is)
    ∙ sym (ap (rising nat_cmp) (drop-cons xs j d (omega arith)))

-- all of them
pub rising_all : (keys xs : List ℕ) (i : ℕ) → i ≡ 0 → keys ≡ rising nat_cmp (drop i xs) → keys ≡ rising nat_cmp xs
rising_all keys xs i is before = before ∙ ap (λ n. rising nat_cmp (drop n xs)) is
