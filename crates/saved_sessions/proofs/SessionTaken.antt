-- The bytes of a session that is opened are its dump.
use Rattle.std.proofs.Common.{◌≡◌, ℕ, ◌+◌, ◌-◌, ◌≤◌, List, [], ◌++◌, length, take, drop, Ok, sym, ap, ◌∙◌, append_assoc, arith}
use Rattle.std.specs.Int.{w16, to_be_bytes}
use Rattle.std.proofs.lemmas.List.{append-nil, drop_all, length-take, length-drop, take-append-drop}
use Rattle.lsdb.specs.Lists.{Lists}
use Rattle.lsdb.specs.BaseText.{base_text}
use Rattle.lsdb.specs.Loading.{◌>>=◌, At}
use Rattle.lsdb.proofs.NumberLemmas.{IsBytes, IsBytes-drop, bind_ok, ok_is}
use Rattle.edit_script.specs.declared.edit.Edit.{Edit}
use Rattle.edit_history.specs.Session.{Session, start, moved_back}
use Rattle.saved_sessions.specs.Lines.{lines_of}
use Rattle.saved_sessions.specs.Text.{session_text}
use Rattle.saved_sessions.specs.Opening.{position_after, counts_at, lines_from, history_at}
use Rattle.saved_sessions.specs.Saved.{saved_text}
use Rattle.saved_sessions.proofs.Doing.{doing}
use Rattle.saved_sessions.proofs.LinesTaken.{LineIsSpelled, lines_take}
use Rattle.saved_sessions.proofs.Numbers.{counts_take}

-- the base, the two numbers, and the lines of all edits
abbrev dump_of : Lists → ℕ → ℕ → List Edit → List ℕ
dump_of db d u es = base_text db ++ (to_be_bytes w16 d ++ (to_be_bytes w16 u ++ lines_of es))

-- it is the dump of the session whose last edits were taken back
taken_back : (db : Lists) (d u : ℕ) (es : List Edit) → length es ≡ d + u → dump_of db d u es ≡ saved_text (moved_back u (doing db es))
unfolding session_text
taken_back db d u es count =
    let n : ℕ = length es - u in
    let done : List Edit = take n es in
    let undone : List Edit = drop n es in
    let first : d ≡ length done = omega (arith, count, length-take n es) in
    let second : u ≡ length undone = omega (arith, count, length-drop n es) in
    let a : List ℕ = to_be_bytes w16 (length done) in
    let b : List ℕ = to_be_bytes w16 (length undone) in
    ap (λ (k : ℕ). dump_of db k u es) first
    ∙ ap (λ (k : ℕ). dump_of db (length done) k es) second
    ∙ ap (λ (xs : List Edit). dump_of db (length done) (length undone) xs) (sym (take-append-drop n es))
    ∙ ap (λ (xs : List ℕ). base_text db ++ xs) (sym (append_assoc a b (lines_of (done ++ undone))))
    ∙ ap (λ (xs : List Edit). session_text db done xs) (sym (append-nil undone))

pub session_is : LineIsSpelled → (bytes : List ℕ) → IsBytes bytes → (db : Lists) (byte_count : ℕ) (s : Session) (end : ℕ) → take byte_count bytes ≡ base_text db
    → history_at db (position_after byte_count bytes) ≡ Ok (s, position_after end bytes) → length bytes ≤ end → bytes ≡ saved_text s
unfolding history_at
session_is law bytes fits db byte_count s end base e all =
    let at : At = position_after byte_count bytes in
    let a = bind_ok (counts_at at) (λ (x : ℕ × ℕ × At). lines_from (x.0 + x.1) 0 (start db) x.2
    >>= λ (found : Session × At). Ok (moved_back x.1 found.0, found.1)) (s, position_after end bytes) e in
    let b = bind_ok (lines_from (a.0.0 + a.0.1) 0 (start db) a.0.2)
    (λ (found : Session × At). Ok (moved_back a.0.1 found.0, found.1)) (s, position_after end bytes) a.2 in
    let both : (moved_back a.0.1 b.0.0, b.0.1) ≡ (s, position_after end bytes) = ok_is (moved_back a.0.1 b.0.0, b.0.1) (s, position_after end bytes) b.2 in
    let counts = counts_take at a.0.0 a.0.1 a.0.2 (IsBytes-drop byte_count bytes fits) a.1 in
    let lines = lines_take law (a.0.0 + a.0.1) 0 db [] a.0.2 b.0.0 b.0.1 b.1 in
    let d : ℕ = a.0.0 in
    let u : ℕ = a.0.1 in
    let es : List Edit = lines.edits in
    let none : b.0.1.rest ≡ [] = ap (λ (p : Session × At). p.1.rest) both ∙ drop_all end bytes all in
    let rest : a.0.2.rest ≡ lines_of es = lines.parts ∙ ap (λ (xs : List ℕ). lines_of es ++ xs) none ∙ append-nil (lines_of es) in
    let is : moved_back u (doing db es) ≡ s = ap (moved_back u) (sym lines.session) ∙ ap (λ (p : Session × At). p.0) both in
    sym (take-append-drop byte_count bytes)
    ∙ ap (λ (xs : List ℕ). xs ++ drop byte_count bytes) base
    ∙ ap (λ (xs : List ℕ). base_text db ++ xs) counts.parts
    ∙ ap (λ (xs : List ℕ). base_text db ++ (to_be_bytes w16 d ++ (to_be_bytes w16 u ++ xs))) rest
    ∙ taken_back db d u es lines.count
    ∙ ap saved_text is
