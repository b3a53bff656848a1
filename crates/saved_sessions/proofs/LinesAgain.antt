-- The lines of edits that are not refused are read again.
use Rattle.std.proofs.Common.{◌≡◌, ℕ, suc, ◌+◌, ◌≤◌, List, [], ◌∷◌, ◌++◌, length, Some, Result, Ok, refl, sym, ap, ◌∙◌, subst, append_assoc, arith}
use Rattle.std.specs.Prelude.{All, IsOk}
use Rattle.std.proofs.lemmas.List.{append-nil, drop_at, length-append}
use Rattle.std.proofs.lemmas.List.Concat.{flat_map-cons}
use Rattle.std.proofs.lemmas.List.Elements.{All-head, All-tail}
use Rattle.lsdb.specs.declared.fault.DumpFault.{DumpFault}
use Rattle.lsdb.specs.Lists.{Lists}
use Rattle.lsdb.specs.Loading.{◌>>=◌, At}
use Rattle.lsdb.proofs.NumberLemmas.{here}
use Rattle.edit_script.specs.declared.edit.Edit.{Edit}
use Rattle.edit_script.specs.Spelling.{IsScripted}
use Rattle.edit_history.specs.declared.fault.EditFault.{EditFault}
use Rattle.edit_history.specs.Session.{Session, after_edits, unless_refused, effects, edited, most_edits}
use Rattle.saved_sessions.specs.Lines.{line_of, lines_of, edit_line}
use Rattle.saved_sessions.specs.Opening.{edit_found, edit_at, edit_done, line_at, lines_from}
use Rattle.saved_sessions.proofs.Doing.{doing, edited_again, after_snoc, leads}

-- the line of an edit is read as it, whatever follows
abbrev pub LineIsRead : Type 0
LineIsRead = (edit : Edit) (rest : List ℕ) → IsScripted edit → edit_line (line_of edit ++ rest) ≡ Some (edit, length (line_of edit))

-- ---- one line

abbrev Line : Type 0
Line = Result (Edit × At) DumpFault

abbrev Next : Type 0
Next = Result (Session × At) DumpFault

line_again : LineIsRead → (line o : ℕ) (base : Lists) (done : List Edit) (e : Edit) (after : Lists) (rest : List ℕ) → IsScripted e
    → edited (doing base done) e ≡ Ok (doing base (done ++ e ∷ []))
    → line_at line (doing base done) (here o (line_of e ++ rest)) ≡ Ok (doing base (done ++ e ∷ []), here (o + length (line_of e)) rest)
unfolding line_at
line_again law line o base done e after rest fits is =
    let s : Session = doing base done in
    let at : At = here o (line_of e ++ rest) in
    let n : ℕ = length (line_of e) in
    let found : edit_at line at ≡ Ok (e, here (o + n) rest) =
    ap (edit_found line at) (law e rest fits)
    ∙ ap (λ (xs : List ℕ). let r : Line = Ok (e, here (o + n) xs) in r) (drop_at (line_of e) rest n refl) in
    ap (λ (r : Line). r >>= λ (x : Edit × At). edit_done line at (edited s x.0) >>= λ (next : Session). let q : Next = Ok (next, x.1) in q) found
    ∙ ap (λ (r : Result Session EditFault). edit_done line at r >>= λ (next : Session). let q : Next = Ok (next, here (o + n) rest) in q) is

-- ---- all lines

abbrev read : Session → At → Next
read s at = Ok (s, at)

pub lines_again : LineIsRead → (es : List Edit) (line o : ℕ) (base : Lists) (done : List Edit) (rest : List ℕ) → All IsScripted es
    → length done + length es ≤ most_edits → IsOk (effects (after_edits base done) es)
    → lines_from (length es) line (doing base done) (here o (lines_of es ++ rest))
    ≡ Ok (doing base (done ++ es), here (o + length (lines_of es)) rest)
unfolding lines_from
lines_again law [] line o base done rest fit few ok =
    ap (λ (xs : List Edit). read (doing base xs) (here o rest)) (sym (append-nil done))
    ∙ ap (λ (k : ℕ). read (doing base (done ++ [])) (here k rest)) (let same : o ≡ o + 0 = omega arith in same)
lines_again law (e ∷ es) line o base done rest fit few ok =
    let first = leads (after_edits base done) e es ok in
    let m : ℕ = length (line_of e) in
    let next : List Edit = done ++ e ∷ [] in
    let parts : lines_of (e ∷ es) ≡ line_of e ++ lines_of es = flat_map-cons line_of e es in
    let whole : lines_of (e ∷ es) ++ rest ≡ line_of e ++ (lines_of es ++ rest) =
    ap (λ (xs : List ℕ). xs ++ rest) parts ∙ append_assoc (line_of e) (lines_of es) rest in
    let is = edited_again base done e first.after (omega arith) first.is in
    let one = line_again law line o base done e first.after (lines_of es ++ rest) (All-head IsScripted e es fit) is in
    let state : after_edits base next ≡ first.after =
    after_snoc base done e ∙ ap (unless_refused (after_edits base done)) first.is in
    let more = lines_again law es (line + 1) (o + m) base next rest (All-tail IsScripted e es fit)
    (omega (arith, length-append done (e ∷ []))) (subst (λ (db : Lists). IsOk (effects db es)) (sym state) first.rest) in
    ap (λ (xs : List ℕ). lines_from (suc (length es)) line (doing base done) (here o xs)) whole
    ∙ ap (λ (r : Next). r >>= λ (x : Session × At). lines_from (length es) (line + 1) x.0 x.1) one
    ∙ more
    ∙ ap (λ (xs : List Edit). read (doing base xs) (here (o + m + length (lines_of es)) rest)) (append_assoc done (e ∷ []) es)
    ∙ ap (λ (k : ℕ). read (doing base (done ++ e ∷ es)) (here k rest))
    (let size : o + m + length (lines_of es) ≡ o + length (lines_of (e ∷ es)) =
    omega (arith, ap length parts, length-append (line_of e) (lines_of es)) in size)
