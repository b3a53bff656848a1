-- Lines that are read are the lines of the edits that they lead to.
use Rattle.std.proofs.Common.{◌≡◌, ℕ, zero, suc, ◌+◌, ◌-◌, ◌≤◌, List, [], ◌∷◌, ◌++◌, length, take, drop, Option, Some, None, Result, Ok, Err, refl, sym, ap, ◌∙◌, append_assoc, arith}
use Rattle.std.proofs.lemmas.List.{append-nil, length-append, length-take, length-drop}
use Rattle.std.proofs.lemmas.List.Concat.{flat_map-cons}
use Rattle.lsdb.specs.Lists.{Lists}
use Rattle.lsdb.specs.Loading.{◌>>=◌, At, advanced}
use Rattle.lsdb.proofs.NumberLemmas.{bind_ok, ok_is}
use Rattle.edit_script.specs.declared.edit.Edit.{Edit}
use Rattle.edit_script.specs.Spelling.{IsScripted}
use Rattle.edit_history.specs.declared.fault.EditFault.{EditFault}
use Rattle.edit_history.specs.Session.{Session, edited}
use Rattle.saved_sessions.specs.Lines.{line_of, lines_of, edit_line}
use Rattle.saved_sessions.specs.Opening.{edit_found, edit_at, edit_done, line_at, lines_from}
use Rattle.saved_sessions.proofs.Doing.{doing, edited_is}

-- what is read as an edit is its line
abbrev pub LineIsSpelled : Type 0
LineIsSpelled = (bytes : List ℕ) (edit : Edit) (byte_count : ℕ) → edit_line bytes ≡ Some (edit, byte_count)
    → IsScripted edit × (byte_count ≡ length (line_of edit)) × (bytes ≡ line_of edit ++ drop byte_count bytes)

-- ---- one line

pub record TakesLine (base : Lists) (done : List Edit) (at : At) (t : Session) (after : At) : Type 0 where
  pub edit : Edit
  pub fits : IsScripted edit
  pub session : t ≡ doing base (done ++ edit ∷ [])
  pub parts : at.rest ≡ line_of edit ++ after.rest

-- an edit that is read, and the position after its line
pub record Found (at : At) (x : Edit × At) (o : Option (Edit × ℕ)) : Type 0 where
  pub byte_count : ℕ
  pub is : o ≡ Some (x.0, byte_count)
  pub after : x.1 ≡ advanced byte_count at

pub found : (line : ℕ) (at : At) (o : Option (Edit × ℕ)) (x : Edit × At) → edit_found line at o ≡ Ok x → Found at x o
found line at None x h = absurd cc
found line at (Some e) x h =
    let same : (e.0, advanced e.1 at) ≡ x = ok_is (e.0, advanced e.1 at) x h in
    record {
      byte_count = e.1;
      is = ap (λ (p : Edit × At). let o : Option (Edit × ℕ) = Some (p.0, e.1) in o) same;
      after = ap (λ (p : Edit × At). p.1) (sym same);
    }

pub done_is : (line : ℕ) (at : At) (r : Result Session EditFault) (t : Session) → edit_done line at r ≡ Ok t → r ≡ Ok t
done_is line at (Ok s) t h = let same : s ≡ t = cc in ap (λ (x : Session). Ok x) same
done_is line at (Err f) t h = absurd cc

line_takes : LineIsSpelled → (line : ℕ) (base : Lists) (done : List Edit) (at : At) (t : Session) (after : At)
    → line_at line (doing base done) at ≡ Ok (t, after) → TakesLine base done at t after
unfolding line_at
line_takes law line base done at t after e =
    let s : Session = doing base done in
    let a = bind_ok (edit_at line at) (λ (x : Edit × At). edit_done line at (edited s x.0) >>= λ (next : Session). Ok (next, x.1)) (t, after) e in
    let b = bind_ok (edit_done line at (edited s a.0.0)) (λ (next : Session). Ok (next, a.0.1)) (t, after) a.2 in
    let both : (b.0, a.0.1) ≡ (t, after) = ok_is (b.0, a.0.1) (t, after) b.2 in
    let f = found line at (edit_line at.rest) a.0 a.1 in
    let spelled = law at.rest a.0.0 f.byte_count f.is in
    let rest : drop f.byte_count at.rest ≡ after.rest = ap (λ (p : At). p.rest) (sym f.after) ∙ ap (λ (p : Session × At). p.1.rest) both in
    record {
      edit = a.0.0;
      fits = spelled.0;
      session = ap (λ (p : Session × At). p.0) (sym both) ∙ edited_is base done a.0.0 b.0 (done_is line at (edited s a.0.0) b.0 b.1);
      parts = spelled.2 ∙ ap (λ (xs : List ℕ). line_of a.0.0 ++ xs) rest;
    }

-- ---- all lines

pub record TakesLines (n : ℕ) (base : Lists) (done : List Edit) (at : At) (t : Session) (after : At) : Type 0 where
  pub edits : List Edit
  pub count : length edits ≡ n
  pub session : t ≡ doing base (done ++ edits)
  pub parts : at.rest ≡ lines_of edits ++ after.rest

pub lines_take : LineIsSpelled → (n line : ℕ) (base : Lists) (done : List Edit) (at : At) (t : Session) (after : At)
    → lines_from n line (doing base done) at ≡ Ok (t, after) → TakesLines n base done at t after
unfolding lines_from
lines_take law zero line base done at t after e =
    let both : (doing base done, at) ≡ (t, after) = ok_is (doing base done, at) (t, after) e in
    record {
      edits = [];
      count = refl;
      session = ap (λ (p : Session × At). p.0) (sym both) ∙ ap (doing base) (sym (append-nil done));
      parts = ap (λ (p : Session × At). p.1.rest) both;
    }
lines_take law (suc n) line base done at t after e =
    let a = bind_ok (line_at line (doing base done) at) (λ (x : Session × At). lines_from n (line + 1) x.0 x.1) (t, after) e in
    let one = line_takes law line base done at a.0.0 a.0.1 a.1 in
    let next : lines_from n (line + 1) (doing base (done ++ one.edit ∷ [])) a.0.1 ≡ Ok (t, after) =
    ap (λ (s : Session). lines_from n (line + 1) s a.0.1) (sym one.session) ∙ a.2 in
    let more = lines_take law n (line + 1) base (done ++ one.edit ∷ []) a.0.1 t after next in
    record {
      edits = one.edit ∷ more.edits;
      count = ap suc more.count;
      session = more.session ∙ ap (doing base) (append_assoc done (one.edit ∷ []) more.edits);
      parts = one.parts ∙ ap (λ (xs : List ℕ). line_of one.edit ++ xs) more.parts
          ∙ sym (append_assoc (line_of one.edit) (lines_of more.edits) after.rest)
          ∙ ap (λ (xs : List ℕ). xs ++ after.rest) (sym (flat_map-cons line_of one.edit more.edits));
    }

-- a line that is found after this number of bytes lies within them all
pub lies_within : LineIsSpelled → (bytes : List ℕ) (offset : ℕ) (found : Option (Edit × ℕ)) (edit : Edit) (byte_count : ℕ)
    → found ≡ edit_line (take (length bytes - offset) (drop offset bytes)) → found ≡ Some (edit, byte_count) → offset ≤ length bytes
    → offset + byte_count ≤ length bytes
lies_within law bytes offset found edit byte_count reads is le =
    let rest : List ℕ = take (length bytes - offset) (drop offset bytes) in
    let spelled = law rest edit byte_count (sym reads ∙ is) in
    omega (
      arith,
      le,
      spelled.1,
      ap length spelled.2,
      length-append (line_of edit) (drop byte_count rest),
      length-take (length bytes - offset) (drop offset bytes),
      length-drop offset bytes,
    )
