-- What holds of sessions without edits, and stays with each edit of a script and each undo, holds of opened sessions.
use Rattle.std.proofs.Common.{◌≡◌, ℕ, zero, suc, ◌+◌, Bool, true, false, cond, List, length, eqb, Ok, ap, subst}
use Rattle.lsdb.specs.declared.fault.DumpFaultKind.TheVariants.{TrailingBytes}
use Rattle.lsdb.specs.Lists.{Lists}
use Rattle.lsdb.specs.Loading.{◌>>=◌, At, ended, fault, loaded}
use Rattle.lsdb.specs.BaseLoading.{base_loaded, begins_session}
use Rattle.lsdb.proofs.NumberLemmas.{bind_ok, ok_is}
use Rattle.edit_script.specs.declared.edit.Edit.{Edit}
use Rattle.edit_script.specs.Spelling.{IsScripted}
use Rattle.edit_history.specs.Session.{Session, edited, moved_back, start}
use Rattle.saved_sessions.specs.Lines.{edit_line}
use Rattle.saved_sessions.specs.Opening.{position_after, counts_at, dump_loaded, edit_at, edit_done, history_at, line_at, lines_from, opened, session_loaded}
use Rattle.saved_sessions.proofs.LinesTaken.{LineIsSpelled, done_is, found}

-- it holds at the start, and stays so with each edit of a script and each undo
pub record Stays (Holds : Session → Type 0) : Type 0 where
  pub start : (db : Lists) → Holds (start db)
  pub edited : (s t : Session) (edit : Edit) → IsScripted edit → Holds s → edited s edit ≡ Ok t → Holds t
  pub undone : (s : Session) (k : ℕ) → Holds s → Holds (moved_back k s)

module _ (Holds : Session → Type 0) (law : Stays Holds) (spelled : LineIsSpelled) where
  -- ---- lines

  line_keeps : (line : ℕ) (s t : Session) (at after : At) → Holds s → line_at line s at ≡ Ok (t, after) → Holds t
  unfolding line_at
  line_keeps line s t at after here e =
      let a = bind_ok (edit_at line at) (λ (x : Edit × At). edit_done line at (edited s x.0) >>= λ (next : Session). Ok (next, x.1)) (t, after) e in
      let b = bind_ok (edit_done line at (edited s a.0.0)) (λ (next : Session). Ok (next, a.0.1)) (t, after) a.2 in
      let f = found line at (edit_line at.rest) a.0 a.1 in
      let fits = (spelled at.rest a.0.0 f.byte_count f.is).0 in
      subst Holds (ap (λ (p : Session × At). p.0) (ok_is (b.0, a.0.1) (t, after) b.2))
      (law.edited s b.0 a.0.0 fits here (done_is line at (edited s a.0.0) b.0 b.1))

  lines_keep : (n line : ℕ) (s t : Session) (at after : At) → Holds s → lines_from n line s at ≡ Ok (t, after) → Holds t
  unfolding lines_from
  lines_keep zero line s t at after here e = subst Holds (ap (λ (p : Session × At). p.0) (ok_is (s, at) (t, after) e)) here
  lines_keep (suc n) line s t at after here e =
      let a = bind_ok (line_at line s at) (λ (x : Session × At). lines_from n (line + 1) x.0 x.1) (t, after) e in
      lines_keep n (line + 1) a.0.0 t a.0.1 after (line_keeps line s a.0.0 at a.0.1 here a.1) a.2

  -- ---- the session

  history_keeps : (base : Lists) (at : At) (found : Session × At) → history_at base at ≡ Ok found → Holds found.0
  unfolding history_at
  history_keeps base at found e =
      let a = bind_ok (counts_at at) (λ (x : ℕ × ℕ × At). lines_from (x.0 + x.1) 0 (start base) x.2
      >>= λ (p : Session × At). Ok (moved_back x.1 p.0, p.1)) found e in
      let b = bind_ok (lines_from (a.0.0 + a.0.1) 0 (start base) a.0.2) (λ (p : Session × At). Ok (moved_back a.0.1 p.0, p.1)) found a.2 in
      subst Holds (ap (λ (p : Session × At). p.0) (ok_is (moved_back a.0.1 b.0.0, b.0.1) found b.2))
      (law.undone b.0.0 a.0.1 (lines_keep (a.0.0 + a.0.1) 0 (start base) b.0.0 a.0.2 b.0.1 (law.start base) b.1))

  ends_as : (found : Session × At) (s : Session) (none_left : Bool) → cond none_left (Ok found.0) (fault found.1 TrailingBytes) ≡ Ok s → found.0 ≡ s
  ends_as found s true e = ok_is found.0 s e
  ends_as found s false e = absurd cc

  session_keeps : (bytes : List ℕ) (s : Session) → session_loaded bytes ≡ Ok s → Holds s
  unfolding session_loaded
  session_keeps bytes s e =
      let a = bind_ok (base_loaded bytes) (λ (x : Lists × ℕ). history_at x.0 (position_after x.1 bytes) >>= ended) s e in
      let b = bind_ok (history_at a.0.0 (position_after a.0.1 bytes)) ended s a.2 in
      subst Holds (ends_as b.0 s (eqb (length b.0.1.rest) 0) b.2) (history_keeps a.0.0 (position_after a.0.1 bytes) b.0 b.1)

  dump_keeps : (bytes : List ℕ) (s : Session) → dump_loaded bytes ≡ Ok s → Holds s
  unfolding dump_loaded
  dump_keeps bytes s e =
      let a = bind_ok (loaded bytes) (λ (db : Lists). Ok (start db)) s e in
      subst Holds (ok_is (start a.0) s a.2) (law.start a.0)

  pub opened_keeps : (bytes : List ℕ) (s : Session) → opened bytes ≡ Ok s → Holds s
  unfolding opened
  opened_keeps bytes s e = by_version (begins_session bytes) e where
    by_version : (b : Bool) → cond b (session_loaded bytes) (dump_loaded bytes) ≡ Ok s → Holds s
    by_version true is = session_keeps bytes s is
    by_version false is = dump_keeps bytes s is
