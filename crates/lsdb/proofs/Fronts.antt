-- The front of a dump has no fault where more than the front was read.
use Rattle.std.proofs.Common.{◌≡◌, Bool, ℕ, zero, suc, ◌<◌, ◌≤◌, false, cond, ltb, List, [], ◌∷◌, ◌++◌, Option, None, Some, Result, Ok, Err, IsOk, refl, sym, subst, arith}
use Rattle.std.specs.Int.{w16, w32}
use Rattle.std.proofs.lemmas.Bool.{le-ltb}
use Rattle.lsa_codec.specs.declared.fault.LsaFault.{LsaFault}
use Rattle.lsa_codec.specs.Decoding.{decoded}
use Rattle.lsdb.specs.declared.fault.DumpFault.{DumpFault}
use Rattle.lsdb.specs.declared.fault.DumpFaultKind.TheVariants.{AreaOrder, TooManyLsas, DuplicateLsa}
use Rattle.lsdb.specs.declared.fault.ReadError.{ReadError}
use Rattle.lsdb.specs.declared.fault.ReadError.TheVariants as errors
use Rattle.lsdb.specs.Lists.{AreaHead, SectionLsas, Lists, limit_of}
use Rattle.lsdb.specs.Loading.{◌>>=◌, At, fault, number_at, placed, accepted, lsa_at, has_key_of, lsas_from, counted_at, section_at, is_above, id_at, kind_at, area_at, areas_from}
use Rattle.lsdb.specs.Loading.{first_lsa_at, section_front_at, area_front_at, first_section_at, area_count_at, sections_front_at}
use Rattle.lsdb.specs.steps.Reading.{IsWantAfter}
use Rattle.lsdb.proofs.Dominated.{section_with}
use Rattle.lsdb.proofs.NumberLemmas.{bind_ok, guard_ok, passed_ok, ok_is, done, fault_at}

-- memory ran out after what was read, and so after less of it
pub want_after : {Y Z : Type 0} (e : ReadError) (more : Result Y DumpFault) (less : Result Z DumpFault) → (IsOk more → IsOk less)
    → IsWantAfter more e → IsWantAfter less e
want_after errors.Memory more less f want = f want
want_after (errors.Fault d) more less f want = tt

-- ---- the front of what was read

placed_front : (area : Option AreaHead) (at : At) (r : Result (List ℕ) LsaFault) (x : List ℕ × At) → placed area at r ≡ Ok x → IsOk (accepted at r)
placed_front area at (Err f) x e = absurd cc
placed_front area at (Ok lsa) x e = refl

pub lsa_front : (area : Option AreaHead) (at : At) (x : List ℕ × At) → lsa_at area at ≡ Ok x → IsOk (first_lsa_at 1 at)
unfolding lsa_at
lsa_front area at x e = placed_front area at (decoded at.rest) x e

pub lsas_front : (area : Option AreaHead) (n : ℕ) (at : At) (x : List (List ℕ) × At) → lsas_from area n [] at ≡ Ok x → IsOk (first_lsa_at n at)
unfolding lsas_from
lsas_front area zero at x e = refl
lsas_front area (suc n) at x e =
    let a =
    bind_ok (lsa_at area at) (λ lsa. cond (has_key_of [] lsa.0) (fault at DuplicateLsa) (lsas_from area n ([] ++ lsa.0 ∷ []) lsa.1)) x e in
    lsa_front area at a.0 a.1

pub section_front : (area : Option AreaHead) (at : At) (x : SectionLsas × At) → section_at area at ≡ Ok x → IsOk (section_front_at area at)
unfolding section_at section_front_at
section_front area at x e =
    let a = bind_ok (number_at w16 at) (λ count. counted_at area at count >>= λ lsas. Ok (section_with area lsas.0, lsas.1)) x e in
    let b = bind_ok (counted_at area at a.0) (λ lsas. Ok (section_with area lsas.0, lsas.1)) x a.2 in
    let c = guard_ok (ltb (limit_of area) a.0.0) (fault_at at TooManyLsas) (lsas_from area a.0.0 [] a.0.1) b.0 b.1 in
    rw (a.1, c.0) (lsas_front area a.0.0 a.0.1 b.0 c.1)

pub section_started : (area : Option AreaHead) (at rest : At) (count : ℕ) (x : List (List ℕ) × At) → number_at w16 at ≡ Ok (count, rest)
    → count ≤ limit_of area → lsas_from area count [] rest ≡ Ok x → IsOk (section_front_at area at)
unfolding section_front_at
section_started area at rest count x is le lsas =
    let small : ltb (limit_of area) count ≡ false = le-ltb (limit_of area) count le in
    rw (is, small) (lsas_front area count rest x lsas)

-- no order is asked of the first area
pub any_id : (before : Option AreaHead) (at : At) (x : ℕ × At) → id_at before at ≡ Ok x → id_at None at ≡ Ok x
unfolding id_at
any_id before at x e =
    let a = bind_ok (number_at w32 at) (λ id. cond (is_above id.0 before) (Ok id) (fault at AreaOrder)) x e in
    let b = passed_ok (is_above a.0.0 before) (fault_at at AreaOrder) (done a.0) x a.2 in
    rw a.1 b.1

abbrev head_with : ℕ × At → Bool × At → AreaHead
head_with id kind = record { id = id.0; is_stub = kind.0 }

pub area_front : (before : Option AreaHead) (at : At) (x : SectionLsas × At) → area_at before at ≡ Ok x → IsOk (area_front_at at)
unfolding area_at area_front_at
area_front before at x e =
    let a = bind_ok (id_at before at) (λ id. kind_at id.0 id.1 >>= λ kind. section_at (Some (head_with id kind)) kind.1) x e in
    let b = bind_ok (kind_at a.0.0 a.0.1) (λ kind. section_at (Some (head_with a.0 kind)) kind.1) x a.2 in
    rw (any_id before at a.0 a.1, b.1) (section_front (Some (head_with a.0 b.0)) b.0.1 x b.2)

pub areas_front : (n : ℕ) (at : At) (x : Lists × At) → areas_from n None [] at ≡ Ok x → IsOk (section_front_at None x.1)
    → IsOk (first_section_at n at)
unfolding areas_from
areas_front zero at x e ok = subst (λ (p : Lists × At). IsOk (section_front_at None p.1)) (sym (ok_is ([], at) x e)) ok
areas_front (suc n) at x e ok =
    let a = bind_ok (area_at None at) (λ area. areas_from n area.0.area ([] ++ area.0 ∷ []) area.1) x e in
    area_front None at a.0 a.1

pub sections_front : (at rest : At) (n : ℕ) → area_count_at at ≡ Ok (n, rest) → IsOk (first_section_at n rest) → IsOk (sections_front_at at)
unfolding sections_front_at
sections_front at rest n e ok = rw e ok

-- ---- in a loop

-- the first of what a loop reads was read before, or is read now
pub first_read : {Z : Type 0} (front : At → Result Z DumpFault) (i : ℕ) (start at : At) → (i ≡ 0 → at ≡ start) → (0 < i → IsOk (front start))
    → IsOk (front at) → IsOk (front start)
first_read front zero start at same first now = subst (λ (a : At). IsOk (front a)) (same refl) now
first_read front (suc i) start at same first now = first (omega arith)

pub first_lsa : (i n : ℕ) (start : At) → i < n → IsOk (first_lsa_at 1 start) → IsOk (first_lsa_at n start)
first_lsa i zero start lt ok = refl
first_lsa i (suc n) start lt ok = ok

pub first_section : (i n : ℕ) (start : At) → i < n → IsOk (area_front_at start) → IsOk (first_section_at n start)
first_section i zero start lt ok = absurd (omega (arith, lt))
first_section i (suc n) start lt ok = ok
