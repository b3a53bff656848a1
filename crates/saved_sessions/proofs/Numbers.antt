-- The numbers before the lines: what is read is what was written, and what was written is read again.
use Rattle.std.proofs.Common.{◌≡◌, ℕ, ◌+◌, ◌^◌, ◌<◌, ◌≤◌, Bool, false, cond, ltb, List, ◌++◌, Result, Ok, Err, refl, ap, ◌∙◌, subst, arith}
use Rattle.std.specs.Int.{w16, to_be_bytes}
use Rattle.std.proofs.lemmas.Bool.{ltb-false, le-ltb}
use Rattle.lsdb.specs.declared.fault.DumpFault.{DumpFault}
use Rattle.lsdb.specs.declared.fault.DumpFaultKind.TheVariants.{BadHistory}
use Rattle.lsdb.specs.Loading.{◌>>=◌, At, number_at}
use Rattle.lsdb.proofs.NumberLemmas.{IsBytes, bind_ok, guard_ok, ok_is, here, fault_at, wide16, number_takes, number_again}
use Rattle.edit_history.specs.Session.{most_edits}
use Rattle.saved_sessions.specs.Opening.{counts_at}

abbrev Counts : Type 0
Counts = ℕ × ℕ × At

-- the numbers, where they are not too many
abbrev last : At → ℕ × At → ℕ × At → Result Counts DumpFault
last at x y = cond (ltb most_edits (x.0 + y.0)) (Err (fault_at at (BadHistory most_edits))) (Ok (x.0, y.0, y.1))

-- ---- what is read

pub record TakesCounts (at : At) (d u : ℕ) (after : At) : Type 0 where
  pub parts : at.rest ≡ to_be_bytes w16 d ++ (to_be_bytes w16 u ++ after.rest)
  pub few : d + u ≤ most_edits

pub counts_take : (at : At) (d u : ℕ) (after : At) → IsBytes at.rest → counts_at at ≡ Ok (d, u, after) → TakesCounts at d u after
unfolding counts_at
counts_take at d u after fits e =
    let all : Counts = (d, u, after) in
    let a = bind_ok (number_at w16 at) (λ (x : ℕ × At). number_at w16 x.1 >>= λ (y : ℕ × At). last at x y) all e in
    let b = bind_ok (number_at w16 a.0.1) (λ (y : ℕ × At). last at a.0 y) all a.2 in
    let g = guard_ok (ltb most_edits (a.0.0 + b.0.0)) (fault_at at (BadHistory most_edits)) (Ok (a.0.0, b.0.0, b.0.1)) all b.2 in
    let same : (a.0.0, b.0.0, b.0.1) ≡ all = ok_is (a.0.0, b.0.0, b.0.1) all g.1 in
    let first = (number_takes w16 (2 ^ 16) wide16 at a.0.0 a.0.1 fits a.1).0 in
    let second = (number_takes w16 (2 ^ 16) wide16 a.0.1 b.0.0 b.0.1 first.rest_fits b.1).0 in
    let few : a.0.0 + b.0.0 ≤ most_edits = ltb-false _ _ g.0 in
    subst (λ (p : Counts). TakesCounts at p.0 p.1 p.2) same
    (record { parts = first.parts ∙ ap (λ (rest : List ℕ). to_be_bytes w16 a.0.0 ++ rest) second.parts; few = few })

-- ---- what was written is read again

pub counts_again : (d u o : ℕ) (rest : List ℕ) → d + u ≤ most_edits
    → counts_at (here o (to_be_bytes w16 d ++ (to_be_bytes w16 u ++ rest))) ≡ Ok (d, u, here (o + 2 + 2) rest)
unfolding counts_at
counts_again d u o rest few =
    let at : At = here o (to_be_bytes w16 d ++ (to_be_bytes w16 u ++ rest)) in
    let middle : At = here (o + 2) (to_be_bytes w16 u ++ rest) in
    let end : At = here (o + 2 + 2) rest in
    let fits : ltb most_edits (d + u) ≡ false = le-ltb _ _ few in
    let small : d < 2 ^ 16 = omega (arith, few) in
    let short : u < 2 ^ 16 = omega (arith, few) in
    ap (λ (r : Result (ℕ × At) DumpFault). r >>= λ (x : ℕ × At). number_at w16 x.1 >>= λ (y : ℕ × At). last at x y)
    (number_again w16 (2 ^ 16) wide16 d o (to_be_bytes w16 u ++ rest) small)
    ∙ ap (λ (r : Result (ℕ × At) DumpFault). r >>= λ (y : ℕ × At). last at (d, middle) y) (number_again w16 (2 ^ 16) wide16 u (o + 2) rest short)
    ∙ ap (λ (b : Bool). cond b (Err (fault_at at (BadHistory most_edits))) (Ok (d, u, end))) fits
