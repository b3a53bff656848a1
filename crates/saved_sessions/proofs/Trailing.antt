-- A session is not loaded where its edits are not, and bytes after the edits are its fault.
use Rattle.std.proofs.Common.{◌≡◌, ℕ, zero, suc, ◌<◌, ◌≤◌, true, false, cond, List, [], ◌∷◌, length, drop, Ok, Err, refl, ap, ◌∙◌, subst, sym, arith}
use Rattle.std.specs.Prelude.{◌==◌, Bool, Result}
use Rattle.std.proofs.Math.Dec.{eqb-suc-zero}
use Rattle.lsdb.specs.declared.fault.DumpFault.{DumpFault}
use Rattle.lsdb.specs.declared.fault.DumpFaultKind.TheVariants.{TrailingBytes}
use Rattle.lsdb.specs.Lists.{Lists}
use Rattle.lsdb.specs.Loading.{◌>>=◌, At, IsFirstFault, ended, fault}
use Rattle.lsdb.specs.BaseLoading.{base_loaded}
use Rattle.edit_history.specs.Session.{Session}
use Rattle.saved_sessions.specs.Opening.{position_after, history_at, session_loaded}
use Rattle.saved_sessions.proofs.Failing.{fails_on}

rest_left : (n : ℕ) (bytes : List ℕ) → n < length bytes → (length (drop n bytes) == 0) ≡ false
rest_left zero [] below = absurd (omega arith)
rest_left zero (byte ∷ bytes) below = eqb-suc-zero (length bytes)
rest_left (suc n) [] below = absurd (omega arith)
rest_left (suc n) (byte ∷ bytes) below = rest_left n bytes (omega arith)

rest_none : (n : ℕ) (bytes : List ℕ) → length bytes ≤ n → (length (drop n bytes) == 0) ≡ true
rest_none zero [] all = refl
rest_none zero (byte ∷ bytes) all = absurd (omega arith)
rest_none (suc n) [] all = refl
rest_none (suc n) (byte ∷ bytes) all = rest_none n bytes (omega arith)

module _ (bytes : List ℕ) (base : Lists × ℕ) (session : Session) (end : ℕ) (loaded : base_loaded bytes ≡ Ok base)
    (history : history_at base.0 (position_after base.1 bytes) ≡ Ok (session, position_after end bytes)) where
  -- what is after the edits decides
  session_if : (is_end : Bool) → (length (drop end bytes) == 0) ≡ is_end
      → session_loaded bytes ≡ cond is_end (Ok session) (fault (position_after end bytes) TrailingBytes)
  unfolding session_loaded
  session_if is_end e =
      ap (λ (r : Result (Lists × ℕ) DumpFault). r >>= (λ base. history_at base.0 (position_after base.1 bytes) >>= ended)) loaded
      ∙ ap (λ (r : Result (Session × At) DumpFault). r >>= ended) history
      ∙ ap (λ b. cond b (Ok session) (fault (position_after end bytes) TrailingBytes)) e

  pub whole : length bytes ≤ end → session_loaded bytes ≡ Ok session
  whole all = session_if true (rest_none end bytes all)

  pub trailing : end < length bytes → session_loaded bytes ≡ Err (record { offset = end; kind = TrailingBytes })
  trailing more = session_if false (rest_left end bytes more)

-- what fails of the edits fails of the session
pub history_ends : (f : DumpFault) (bytes : List ℕ) (base : Lists × ℕ) → base_loaded bytes ≡ Ok base
    → IsFirstFault f (history_at base.0 (position_after base.1 bytes)) → IsFirstFault f (session_loaded bytes)
unfolding session_loaded
history_ends f bytes base loaded fails =
    subst (λ (r : Result (Lists × ℕ) DumpFault). IsFirstFault f (r >>= (λ base. history_at base.0 (position_after base.1 bytes) >>= ended))) (sym loaded)
    (fails_on f (history_at base.0 (position_after base.1 bytes)) ended fails)
