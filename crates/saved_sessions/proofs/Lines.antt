-- Lines that are read one after another, as a loop does.
use Rattle.std.proofs.Common.{◌≡◌, ℕ, suc, ◌-◌, ◌+◌, ◌≤◌, ◌<◌, Result, Ok, refl, sym, ◌∙◌, subst, arith}
use Rattle.lsdb.specs.declared.fault.DumpFault.{DumpFault}
use Rattle.lsdb.specs.Loading.{◌>>=◌, At, IsFirstFault}
use Rattle.edit_history.specs.Session.{Session}
use Rattle.saved_sessions.specs.Opening.{line_at, lines_from}
use Rattle.saved_sessions.proofs.Failing.{fails_on}

abbrev pub AfterLines : Type 0
AfterLines = Result (Session × At) DumpFault

pub lines_go_on : (count i : ℕ) (s next : Session) (at after : At) (total : AfterLines) → i < count → line_at i s at ≡ Ok (next, after)
    → lines_from (count - i) i s at ≡ total → lines_from (count - (i + 1)) (i + 1) next after ≡ total
unfolding lines_from
lines_go_on count i s next at after total lt h so_far =
    let k : count - i ≡ suc (count - (i + 1)) = omega arith in
    let one : lines_from (count - i) i s at ≡ lines_from (count - (i + 1)) (i + 1) next after = rw (k, h) refl in
    sym one ∙ so_far

-- a line has a fault
pub lines_end : (fault : DumpFault) (count i : ℕ) (s : Session) (at : At) (total : AfterLines) → i < count → IsFirstFault fault (line_at i s at)
    → lines_from (count - i) i s at ≡ total → IsFirstFault fault total
unfolding lines_from
lines_end fault count i s at total lt h so_far =
    let k : count - i ≡ suc (count - (i + 1)) = omega arith in
    let more : Session × At → AfterLines = λ next. lines_from (count - (i + 1)) (i + 1) next.0 next.1 in
    let one : lines_from (count - i) i s at ≡ (line_at i s at >>= more) = rw k refl in
    subst (λ (r : AfterLines). IsFirstFault fault r) (sym one ∙ so_far) (fails_on fault (line_at i s at) more h)

pub lines_done : (count i : ℕ) (s : Session) (at : At) (total : AfterLines) → count ≤ i → lines_from (count - i) i s at ≡ total → total ≡ Ok (s, at)
unfolding lines_from
lines_done count i s at total le so_far =
    let k : count - i ≡ 0 = omega arith in
    let one : lines_from (count - i) i s at ≡ Ok (s, at) = rw k refl in
    sym so_far ∙ one
