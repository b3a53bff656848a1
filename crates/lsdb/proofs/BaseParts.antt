-- The base of a session: what is loaded is spelled so, and what is spelled so is loaded.
use Rattle.std.proofs.Common.{◌≡◌, ℕ, ◌^◌, ◌<◌, ◌≤◌, Bool, true, false, cond, ltb, eqb, List, ◌++◌, length, take, Result, Ok, Err, refl, sym, ap, subst, ◌∙◌}
use Rattle.std.proofs.Common.{append_assoc, arith}
use Rattle.std.specs.Prelude.{All}
use Rattle.std.specs.Int.{w8, w32, to_be_bytes}
use Rattle.std.proofs.lemmas.Bool.{ltb-false, le-ltb, lt-ltb, eqb-true}
use Rattle.std.proofs.lemmas.List.{length-append, take_at}
use Rattle.lsdb.specs.declared.fault.DumpFault.{DumpFault}
use Rattle.lsdb.specs.declared.fault.DumpFaultKind.TheVariants.{BadVersion, TooLarge}
use Rattle.lsdb.specs.Limits.{longest_dump, longest_session}
use Rattle.lsdb.specs.Lists.{Lists, IsSection, AreHeads, IsDatabase, heads_of, size}
use Rattle.lsdb.specs.Text.{magic}
use Rattle.lsdb.specs.BaseText.{session_version, sections_text, base_text}
use Rattle.lsdb.specs.Loading.{◌>>=◌, At, number_at, magic_at, sections_at, beginning}
use Rattle.lsdb.specs.BaseLoading.{begins_session, most_bytes, session_version_at, base_at, small_base, base_loaded}
use Rattle.lsdb.proofs.NumberLemmas.{IsBytes, bind_ok, guard_ok, passed_ok, ok_is, done, fault_at, Takes, Takes-then, wide8, number_takes, number_again, here}
use Rattle.lsdb.proofs.TextSize.{base_size}
use Rattle.lsdb.proofs.DumpText.{magic_takes, magic_again, sections_take, database_sections}

-- ---- what is read

session_version_takes : (at after : At) → IsBytes at.rest → session_version_at at ≡ Ok after → Takes at (to_be_bytes w8 session_version) after
unfolding session_version_at
session_version_takes at after fits e =
    let a = bind_ok (number_at w8 at) (λ n. cond (eqb n.0 session_version) (Ok n.1) (Err (fault_at at BadVersion))) after e in
    let b = passed_ok (eqb a.0.0 session_version) (fault_at at BadVersion) (Ok a.0.1) after a.2 in
    let t = number_takes w8 (2 ^ 8) wide8 at a.0.0 a.0.1 fits a.1 in
    let taken : Takes at (to_be_bytes w8 session_version) a.0.1 = subst (λ (k : ℕ). Takes at (to_be_bytes w8 k) a.0.1) (eqb-true _ _ b.0) t.0 in
    subst (λ (p : At). Takes at (to_be_bytes w8 session_version) p) (ok_is a.0.1 after b.1) taken

base-split : (db : Lists) → base_text db ≡ to_be_bytes w32 magic ++ (to_be_bytes w8 session_version ++ sections_text db)
unfolding base_text
base-split db = append_assoc (to_be_bytes w32 magic) (to_be_bytes w8 session_version) (sections_text db)

pub record TakesBase (at : At) (db : Lists) (after : At) : Type 0 where
  pub takes : Takes at (base_text db) after
  pub heads : AreHeads (heads_of db)
  pub sections : All IsSection db

pub base_takes : (at : At) (db : Lists) (after : At) → IsBytes at.rest → base_at at ≡ Ok (db, after) → TakesBase at db after
unfolding base_at
base_takes at db after fits e =
    let m : List ℕ = to_be_bytes w32 magic in
    let v : List ℕ = to_be_bytes w8 session_version in
    let a = bind_ok (magic_at at) (λ start. session_version_at start >>= sections_at) (db, after) e in
    let b = bind_ok (session_version_at a.0) sections_at (db, after) a.2 in
    let t0 = magic_takes at a.0 fits a.1 in
    let t1 = session_version_takes a.0 b.0 t0.rest_fits b.1 in
    let t2 = sections_take b.0 db after t1.rest_fits b.2 in
    let beyond = Takes-then a.0 v b.0 (sections_text db) after t1 t2.takes in
    let all = Takes-then at m a.0 (v ++ sections_text db) after t0 beyond in
    record { takes = subst (λ (t : List ℕ). Takes at t after) (sym (base-split db)) all; heads = t2.heads; sections = t2.sections }

-- the number of bytes before what follows is that of the dump of the base
pub base_ends : (bytes : List ℕ) (db : Lists) (after : At) → IsBytes bytes → base_at (beginning bytes) ≡ Ok (db, after) → after.offset ≡ size db
base_ends bytes db after fits e = omega (arith, (base_takes (beginning bytes) db after fits e).takes.moved, base_size db)

-- the base alone is longer than a dump may be
pub base_too_large : (bytes : List ℕ) (db : Lists) (after : At) → IsBytes bytes → length bytes ≤ most_bytes bytes
    → base_at (beginning bytes) ≡ Ok (db, after) → longest_dump < after.offset
    → base_loaded bytes ≡ Err (fault_at (beginning bytes) TooLarge)
unfolding base_loaded
base_too_large bytes db after fits few e large =
    let start : At = beginning bytes in
    let within : ltb (most_bytes bytes) (length bytes) ≡ false = le-ltb _ _ few in
    let passes : ltb longest_dump (size db) ≡ true = lt-ltb _ _ (omega (arith, large, base_ends bytes db after fits e)) in
    ap (λ (b : Bool). cond b (Err (fault_at start TooLarge)) (base_at start >>= small_base start)) within
    ∙ ap (λ (r : Result (Lists × At) DumpFault). r >>= small_base start) e
    ∙ ap (λ (b : Bool). cond b (Err (fault_at start TooLarge)) (Ok (db, after.offset))) passes

pub base_read : (bytes : List ℕ) (db : Lists) (after : At) → IsBytes bytes → length bytes ≤ most_bytes bytes
    → base_at (beginning bytes) ≡ Ok (db, after) → after.offset ≤ longest_dump
    → base_loaded bytes ≡ Ok (db, after.offset)
unfolding base_loaded
base_read bytes db after fits few e small =
    let start : At = beginning bytes in
    let within : ltb (most_bytes bytes) (length bytes) ≡ false = le-ltb _ _ few in
    let passes : ltb longest_dump (size db) ≡ false = le-ltb _ _ (omega (arith, small, base_ends bytes db after fits e)) in
    ap (λ (b : Bool). cond b (Err (fault_at start TooLarge)) (base_at start >>= small_base start)) within
    ∙ ap (λ (r : Result (Lists × At) DumpFault). r >>= small_base start) e
    ∙ ap (λ (b : Bool). cond b (Err (fault_at start TooLarge)) (Ok (db, after.offset))) passes

pub record IsBase (bytes : List ℕ) (db : Lists) (count : ℕ) : Type 0 where
  pub database : IsDatabase db
  pub byte_count : count ≡ size db
  pub spelled : take count bytes ≡ base_text db
  pub within : count ≤ length bytes

pub base_loaded_is : (bytes : List ℕ) (db : Lists) (byte_count : ℕ) → IsBytes bytes → base_loaded bytes ≡ Ok (db, byte_count) → IsBase bytes db byte_count
unfolding base_loaded
base_loaded_is bytes db byte_count fits e =
    let start : At = beginning bytes in
    let a = guard_ok (ltb (most_bytes bytes) (length bytes)) (fault_at start TooLarge) (base_at start >>= small_base start) (db, byte_count) e in
    let b = bind_ok (base_at start) (small_base start) (db, byte_count) a.1 in
    let found : Lists = b.0.0 in
    let n : ℕ = b.0.1.offset in
    let c = guard_ok (ltb longest_dump (size found)) (fault_at start TooLarge) (Ok (found, n)) (db, byte_count) b.2 in
    let t = base_takes start found b.0.1 fits b.1 in
    let few : size found ≤ longest_dump = ltb-false _ _ c.0 in
    let is : n ≡ size found = base_ends bytes found b.0.1 fits b.1 in
    let count : length (base_text found) ≡ n = base_size found ∙ sym is in
    subst (λ (p : Lists × ℕ). IsBase bytes p.0 p.1) (ok_is (found, n) (db, byte_count) c.1)
    (record {
      database = record { heads = t.heads; sections = t.sections; small = few };
      byte_count = is;
      spelled = ap (take n) t.takes.parts ∙ take_at (base_text found) b.0.1.rest n count;
      within = omega (arith, ap length t.takes.parts, length-append (base_text found) b.0.1.rest, count);
    })

-- ---- what is spelled is read again

session_version_again : (rest : List ℕ) → session_version_at (here 4 (to_be_bytes w8 session_version ++ rest)) ≡ Ok (here 5 rest)
unfolding session_version_at
session_version_again rest =
    let at : At = here 4 (to_be_bytes w8 session_version ++ rest) in
    ap (λ (r : Result (ℕ × At) DumpFault). r >>= λ n. cond (eqb n.0 session_version) (Ok n.1) (Err (fault_at at BadVersion)))
    (number_again w8 (2 ^ 8) wide8 session_version 4 rest (omega arith))

base_again : (db : Lists) (rest : List ℕ) → IsDatabase db → base_at (beginning (base_text db ++ rest)) ≡ Ok (db, here (size db) rest)
unfolding base_at
base_again db rest good =
    let m : List ℕ = to_be_bytes w32 magic in
    let v : List ℕ = to_be_bytes w8 session_version in
    let regrouped : base_text db ++ rest ≡ m ++ (v ++ (sections_text db ++ rest)) =
    ap (λ (t : List ℕ). t ++ rest) (base-split db) ∙ append_assoc m (v ++ sections_text db) rest
    ∙ ap (λ (t : List ℕ). m ++ t) (append_assoc v (sections_text db) rest) in
    ap (λ (bytes : List ℕ). base_at (beginning bytes)) regrouped
    ∙ ap (λ (r : Result At DumpFault). r >>= λ start. session_version_at start >>= sections_at) (magic_again (v ++ (sections_text db ++ rest)))
    ∙ ap (λ (r : Result At DumpFault). r >>= sections_at) (session_version_again (sections_text db ++ rest))
    ∙ database_sections db rest good

begins : (db : Lists) (rest : List ℕ) → begins_session (base_text db ++ rest) ≡ true
unfolding base_text
begins db rest = refl

pub base_loaded_again : (db : Lists) (rest : List ℕ) → IsDatabase db → length (base_text db ++ rest) ≤ longest_session
    → base_loaded (base_text db ++ rest) ≡ Ok (db, length (base_text db))
unfolding base_loaded
base_loaded_again db rest good few =
    let bytes : List ℕ = base_text db ++ rest in
    let start : At = beginning bytes in
    let most : most_bytes bytes ≡ longest_session = ap (λ (b : Bool). cond b longest_session longest_dump) (begins db rest) in
    let within : ltb (most_bytes bytes) (length bytes) ≡ false = le-ltb _ _ (omega (arith, most, few)) in
    let small : ltb longest_dump (size db) ≡ false = le-ltb _ _ good.small in
    ap (λ (b : Bool). cond b (Err (fault_at start TooLarge)) (base_at start >>= small_base start)) within
    ∙ ap (λ (r : Result (Lists × At) DumpFault). r >>= small_base start) (base_again db rest good)
    ∙ ap (λ (b : Bool). cond b (Err (fault_at start TooLarge)) (Ok (db, size db))) small
    ∙ ap (λ (k : ℕ). done (db, k)) (sym (base_size db))
