use Rattle.std.proofs.Common.{◌+◌, ◌-◌, ◌≤◌, ◌≡◌, ◌++◌, ℕ, List, arith, rules, ap, length, take, length-append, length-take-le}
use Rattle.std.proofs.KnownBytes.{Consumes-trans}
use Rattle.host_io.proofs.reading.read_more.Goals as goal

-- the bytes of before, those taken and those of the chunk are no more than the most
joined_length : (all before taken ys : List ℕ) (n most old : ℕ) → old ≡ length before → all ≡ before ++ taken → n ≤ length ys → length all + n ≤ most
    → length (taken ++ take n ys) ≤ most - old
joined_length all before taken ys n most old count whole fits within =
    omega (arith, count, ap length whole, length-append before taken, length-append taken (take n ys), length-take-le n ys fits)

-- what was read before, and the chunk that found no memory
pub returns-in_err-extend_from_slice-clause-bounded : goal.returns-in_err-extend_from_slice-clause-bounded
returns-in_err-extend_from_slice-clause-bounded g c = (
  c.chunks.invariant.read.0 ++ take c.in-Ok.count c.read.new.buf,
  (
    Consumes-trans _ _ _ _ _ c.chunks.invariant.read.1.0 c.in-Ok.ensures.bytes.0,
    joined_length c.chunks.bytes.items _ _ _ _ _ _ (search rules) c.chunks.invariant.read.1.1.0 (search rules) (search rules),
  ),
)
