-- What is read of the bytes of a dump: all of them, or one past those that it may have.
use Rattle.std.proofs.Common.{◌≡◌, ℕ, ◌+◌, ◌-◌, ◌<◌, ◌≤◌, Bool, true, false, cond, List, [], ◌∷◌, ◌++◌, length, Option, None, Some}
use Rattle.std.proofs.Common.{refl, sym, ap, ◌∙◌, arith}
use Rattle.std.specs.Prelude.{IfSome}
use Rattle.std.specs.Io.KnownBytes.{Consumes}
use Rattle.std.proofs.KnownBytes.{Consumes-trans}
use Rattle.std.proofs.lemmas.List.{length-append}
use Rattle.lsdb.specs.Limits.{longest_dump, longest_session}
use Rattle.lsdb.specs.BaseLoading.{begins_session, most_bytes}
use Rattle.host_io.specs.WholeText.{ConsumesAtMost, ReadsAfter}
use Rattle.whole_run.specs.Inputs.{IsTooLong, most_read}
use Rattle.whole_run.specs.steps.Reading.{most_after}

-- ---- the front decides how many there may be

begins_longer : (front rest : List ℕ) → 5 ≤ length front → begins_session (front ++ rest) ≡ begins_session front
begins_longer [] rest long = absurd (omega (arith, long))
begins_longer (a ∷ []) rest long = absurd (omega (arith, long))
begins_longer (a ∷ (b ∷ [])) rest long = absurd (omega (arith, long))
begins_longer (a ∷ (b ∷ (c ∷ []))) rest long = absurd (omega (arith, long))
begins_longer (a ∷ (b ∷ (c ∷ (d ∷ [])))) rest long = absurd (omega (arith, long))
begins_longer (a ∷ (b ∷ (c ∷ (d ∷ (e ∷ front))))) rest long = refl

most_longer : (front rest : List ℕ) → longest_dump < length front → most_bytes (front ++ rest) ≡ most_bytes front
most_longer front rest long =
    ap (λ (b : Bool). cond b longest_session longest_dump) (begins_longer front rest (omega (arith, long)))

-- more bytes than a dump may have, and no session
pub long_front : (front : List ℕ) (known : Option (List ℕ)) → longest_dump < length front → begins_session front ≡ false
    → IfSome known (λ rest. IsTooLong (front ++ rest))
long_front front None long e = tt
long_front front (Some rest) long e =
    let most : most_bytes (front ++ rest) ≡ longest_dump =
    most_longer front rest long ∙ ap (λ (b : Bool). cond b longest_session longest_dump) e in
    omega (arith, most, length-append front rest)

-- more than a session may have
pub long_whole : (front all taken : List ℕ) (old new : Option (List ℕ)) → longest_dump < length front → begins_session front ≡ true
    → Consumes old new taken → all ≡ front ++ taken → longest_session < length all → IfSome old (λ rest. IsTooLong (front ++ rest))
long_whole front all taken None new long e took is past = tt
long_whole front all taken (Some rest) None long e took is past = absurd took
long_whole front all taken (Some rest) (Some left) long e took is past =
    let most : most_bytes (front ++ rest) ≡ longest_session =
    most_longer front rest long ∙ ap (λ (b : Bool). cond b longest_session longest_dump) e in
    omega (arith, most, length-append front rest, length-append front taken, ap length is, ap length took, length-append taken left)

-- ---- how many are read

pub consumes_less : (a b : Option (List ℕ)) (n m : ℕ) → n ≤ m → ConsumesAtMost a b n → ConsumesAtMost a b m
consumes_less a b n m le (taken, (took, few)) = (taken, (took, omega (arith, le, few)))

pub dump_read : (known : Option (List ℕ)) → longest_dump + 1 ≤ most_read known
dump_read None = omega arith
dump_read (Some bytes) = dump_read_by (begins_session bytes) where
  dump_read_by : (b : Bool) → longest_dump + 1 ≤ cond b longest_session longest_dump + 1
  dump_read_by true = omega arith
  dump_read_by false = omega arith

-- the bytes after a front that is too long for a dump are read on, where the front begins a session
after_few : (x y front : List ℕ) (n : ℕ) (b : Bool) → begins_session front ≡ b → x ≡ front ++ y → longest_dump < length front
    → length front ≤ longest_dump + 1 → n ≤ cond b (longest_session + 1 - length front) 0 → length front + n ≤ most_bytes x + 1
after_few x y front n true e is long few more =
    let most : most_bytes x ≡ longest_session =
    ap most_bytes is ∙ most_longer front y long ∙ ap (λ (b : Bool). cond b longest_session longest_dump) e in
    omega (arith, most, few, more)
after_few x y front n false e is long few more =
    let most : most_bytes x ≡ longest_dump =
    ap most_bytes is ∙ most_longer front y long ∙ ap (λ (b : Bool). cond b longest_session longest_dump) e in
    omega (arith, most, few, more)

pub reads_on : (a b c : Option (List ℕ)) (before front : List ℕ) → before ≡ [] → ReadsAfter a b before front → longest_dump < length front
    → ConsumesAtMost a b (longest_dump + 1) → ConsumesAtMost b c (most_after front) → ConsumesAtMost a c (most_read a)
reads_on None b c before front none reads long first second = ([], (tt, omega arith))
reads_on (Some x) None c before front none (taken, (took, is)) long first second = absurd took
reads_on (Some x) (Some y) None before front none reads long first (more, (took, few)) = absurd took
reads_on (Some x) (Some y) (Some z) before front none (taken, (took, is)) long (one, (once, least)) (more, (on, few)) =
    let whole : front ≡ taken = is ∙ ap (λ (xs : List ℕ). xs ++ taken) none in
    let parts : x ≡ front ++ y = took ∙ ap (λ (xs : List ℕ). xs ++ y) (sym whole) in
    let short : length front ≤ longest_dump + 1 =
    omega (arith, ap length parts, length-append front y, ap length once, length-append one y, least) in
    let all : length front + length more ≤ most_bytes x + 1 =
    after_few x y front (length more) (begins_session front) refl parts long short few in
    (taken ++ more, (Consumes-trans (Some x) (Some y) (Some z) taken more took on, omega (arith, length-append taken more, ap length whole, all)))
