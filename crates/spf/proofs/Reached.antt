-- How many vertices are reached, and what that says of their distances.
use Rattle.std.proofs.Common.{◌≡◌, ◌≢◌, ℕ, ◌+◌, ◌*◌, ◌<◌, ◌≤◌, ◌^◌, List, length, get_or, set, Option, None, Some, IsSome, is_some, cond, refl}
use Rattle.std.proofs.Common.{sym, ◌∙◌, subst, arith, ◌⊎◌, inl, inr, ⊎_elim}
use Rattle.std.proofs.lemmas.Bool.{cases_eq, cases_lt, false≢true}
use Rattle.std.proofs.lemmas.List.{get_or-set_same, get_or-set_other, get_or_past}
use Rattle.std.proofs.lemmas.List.Sums.{sum_by-set, count_by-le-length}
use Rattle.spf.specs.steps.Relaxation.{reached_count, Bounded}

pub some_of : (o : Option ℕ) → IsSome o → (x : ℕ) × (o ≡ Some x)
some_of None h = absurd (false≢true h)
some_of (Some x) h = (x, refl)

-- what has a distance is a vertex
pub within_some : (ds : List (Option ℕ)) (i d : ℕ) → get_or ds i None ≡ Some d → i < length ds
within_some ds i d at = ⊎_elim (λ lt. lt) (λ past. (let none : get_or ds i None ≡ None = get_or_past ds i None past in cc)) (cases_lt i (length ds))

-- what is at an index once one is written
pub at_set : (ds : List (Option ℕ)) (i j d x : ℕ) → j < length ds → get_or (set ds j (Some d)) i None ≡ Some x
    → ((i ≡ j) × (x ≡ d)) ⊎ ((i ≢ j) × (get_or ds i None ≡ Some x))
at_set ds i j d x h e =
    ⊎_elim
    (λ same. let k : get_or (set ds j (Some d)) j None ≡ Some d = get_or-set_same ds j (Some d) None h in inl (same, (let e' : get_or (set ds j (Some d)) j None ≡ Some x = subst (λ (n : ℕ). get_or (set ds j (Some d)) n None ≡ Some x) same e in cc)))
    (λ other. inr (other, sym (get_or-set_other ds j i (Some d) None other) ∙ e))
    (cases_eq i j)

-- one more is reached, or the same number
pub reached_count-set : (ds : List (Option ℕ)) (j d : ℕ) → j < length ds
    → reached_count (set ds j (Some d)) + cond (is_some (get_or ds j None)) 1 0 ≡ reached_count ds + 1
reached_count-set ds j d h = sum_by-set (λ (o : Option ℕ). cond (is_some o) 1 0) ds j (Some d) None h

-- no more than there are
pub reached_count-le : (ds : List (Option ℕ)) → reached_count ds ≤ length ds
reached_count-le ds = count_by-le-length (λ (o : Option ℕ). is_some o) ds

-- a distance is far below the numbers' limit
pub Bounded-small : (ds : List (Option ℕ)) (i d : ℕ) → length ds ≤ 8192 → Bounded ds → get_or ds i None ≡ Some d → d < 2 ^ 30
Bounded-small ds i d few b at =
    let one : d + 65535 ≤ 65535 * reached_count ds = b i d at in
    let two : reached_count ds ≤ length ds = count_by-le-length (λ (o : Option ℕ). is_some o) ds in
    omega arith
