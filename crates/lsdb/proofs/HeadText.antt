-- The head of an area: its ID and its kind, as they are read and as they are spelled.
use Rattle.std.proofs.Common.{◌≡◌, ℕ, ◌+◌, ◌^◌, ◌<◌, ◌≤◌, Bool, true, false, cond, ltb, eqb, ◌&&◌, List, ◌++◌}
use Rattle.std.proofs.Common.{Option, Result, Ok, Err, refl, sym, ap, subst, ◌∙◌, arith, inl, inr}
use Rattle.std.specs.Int.{w8, w32, to_be_bytes}
use Rattle.std.proofs.lemmas.Bool.{ltb-false, eq-eqb, ne_eqb, cases_eq, false≢true}
use Rattle.lsdb.specs.declared.fault.DumpFault.{DumpFault}
use Rattle.lsdb.specs.declared.fault.DumpFaultKind.TheVariants.{AreaOrder, BadAreaKind, BackboneStub}
use Rattle.lsdb.specs.Lists.{AreaHead}
use Rattle.lsdb.specs.Text.{kind_number}
use Rattle.lsdb.specs.Loading.{◌>>=◌, At, number_at, is_above, id_at, kind_at}
use Rattle.lsdb.proofs.NumberLemmas.{IsBytes, bind_ok, guard_ok, passed_ok, ok_is, fault_at, Takes, wide8, wide32, number_takes, number_again, here}

-- ---- the ID

pub id_takes : (before : Option AreaHead) (at : At) (id : ℕ) (after : At) → IsBytes at.rest → id_at before at ≡ Ok (id, after)
    → Takes at (to_be_bytes w32 id) after × (id < 2 ^ 32) × (is_above id before ≡ true)
unfolding id_at
id_takes before at id after fits e =
    let a = bind_ok (number_at w32 at) (λ n. cond (is_above n.0 before) (Ok n) (Err (fault_at at AreaOrder))) (id, after) e in
    let b = passed_ok (is_above a.0.0 before) (fault_at at AreaOrder) (Ok a.0) (id, after) a.2 in
    let t = number_takes w32 (2 ^ 32) wide32 at a.0.0 a.0.1 fits a.1 in
    subst (λ (p : ℕ × At). Takes at (to_be_bytes w32 p.0) p.1 × (p.0 < 2 ^ 32) × (is_above p.0 before ≡ true)) (ok_is a.0 (id, after) b.1) (t.0, t.1, b.0)

pub id_again : (before : Option AreaHead) (id o : ℕ) (rest : List ℕ) → id < 2 ^ 32 → is_above id before ≡ true
    → id_at before (here o (to_be_bytes w32 id ++ rest)) ≡ Ok (id, here (o + 4) rest)
unfolding id_at
id_again before id o rest small above = rw (number_again w32 (2 ^ 32) wide32 id o rest small, above) refl

-- ---- the kind

kind_number_is : (n : ℕ) → n ≤ 1 → n ≡ kind_number (eqb n 1)
kind_number_is n le = elim (cases_eq n 1) [ inl e ↦ rw e refl | inr ne ↦ let z : n ≡ 0 = omega arith in rw z refl ]

not_both : (x y : Bool) → (x && y) ≡ false → x ≡ true → y ≡ false
not_both true y e t = e
not_both false y e t = absurd cc

-- what is made of the number of a kind
abbrev kind_from : ℕ → At → ℕ × At → Result (Bool × At) DumpFault
kind_from id at kind = cond (ltb 1 kind.0) (Err (fault_at at BadAreaKind))
    (cond (eqb id 0 && eqb kind.0 1) (Err (fault_at at BackboneStub)) (Ok (eqb kind.0 1, kind.1)))

pub kind_takes : (id : ℕ) (at : At) (is_stub : Bool) (after : At) → IsBytes at.rest → kind_at id at ≡ Ok (is_stub, after)
    → Takes at (to_be_bytes w8 (kind_number is_stub)) after × (id ≡ 0 → is_stub ≡ false)
unfolding kind_at
kind_takes id at is_stub after fits e =
    let a = bind_ok (number_at w8 at) (kind_from id at) (is_stub, after) e in
    let n : ℕ = a.0.0 in
    let b = guard_ok (ltb 1 n) (fault_at at BadAreaKind) _ (is_stub, after) a.2 in
    let c = guard_ok (eqb id 0 && eqb n 1) (fault_at at BackboneStub) (Ok (eqb n 1, a.0.1)) (is_stub, after) b.1 in
    let t = number_takes w8 (2 ^ 8) wide8 at n a.0.1 fits a.1 in
    let number : n ≡ kind_number (eqb n 1) = kind_number_is n (ltb-false _ _ b.0) in
    let backbone : id ≡ 0 → eqb n 1 ≡ false = λ zero. not_both (eqb id 0) (eqb n 1) c.0 (eq-eqb _ _ zero) in
    let taken : Takes at (to_be_bytes w8 (kind_number (eqb n 1))) a.0.1 = subst (λ (k : ℕ). Takes at (to_be_bytes w8 k) a.0.1) number t.0 in
    subst (λ (p : Bool × At). Takes at (to_be_bytes w8 (kind_number p.0)) p.1 × (id ≡ 0 → p.0 ≡ false))
    (ok_is (eqb n 1, a.0.1) (is_stub, after) c.1) (taken, backbone)

kind_number_small : (b : Bool) → kind_number b < 2 ^ 8
kind_number_small true = omega arith
kind_number_small false = omega arith

and_false : (x : Bool) → (x && false) ≡ false
and_false true = refl
and_false false = refl

kind_from_is : (id : ℕ) (at after : At) (is_stub : Bool) → (id ≡ 0 → is_stub ≡ false) → kind_from id at (kind_number is_stub, after) ≡ Ok (is_stub, after)
kind_from_is id at after true backbone =
    let nonzero : eqb id 0 ≡ false = ne_eqb _ _ (λ zero. false≢true (sym (backbone zero))) in
    rw nonzero refl
kind_from_is id at after false backbone = rw (and_false (eqb id 0)) refl

pub kind_again : (id : ℕ) (is_stub : Bool) (o : ℕ) (rest : List ℕ) → (id ≡ 0 → is_stub ≡ false)
    → kind_at id (here o (to_be_bytes w8 (kind_number is_stub) ++ rest)) ≡ Ok (is_stub, here (o + 1) rest)
unfolding kind_at
kind_again id is_stub o rest backbone =
    let at : At = here o (to_be_bytes w8 (kind_number is_stub) ++ rest) in
    ap (λ (r : Result (ℕ × At) DumpFault). r >>= kind_from id at) (number_again w8 (2 ^ 8) wide8 (kind_number is_stub) o rest (kind_number_small is_stub))
    ∙ kind_from_is id at (here (o + 1) rest) is_stub backbone
