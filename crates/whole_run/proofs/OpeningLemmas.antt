-- Bytes that are too many for a dump, or a session, are refused.
use Rattle.std.proofs.Common.{◌≡◌, ◌<◌, ℕ, Bool, true, false, cond, ltb, List, length, Option, None, Some, Result, Err}
use Rattle.std.proofs.Common.{refl, ap, subst}
use Rattle.std.specs.Prelude.{IfSome}
use Rattle.std.proofs.lemmas.Bool.{lt-ltb}
use Rattle.lsdb.specs.Limits.{longest_dump, longest_session}
use Rattle.lsdb.specs.declared.fault.DumpFault.{DumpFault}
use Rattle.lsdb.specs.declared.fault.DumpFaultKind.TheVariants as kind
use Rattle.lsdb.specs.Loading.{loaded}
use Rattle.lsdb.specs.BaseLoading.{begins_session, most_bytes, base_loaded}
use Rattle.edit_history.specs.Session.{Session}
use Rattle.saved_sessions.specs.Opening.{dump_loaded, opened, session_loaded}
use Rattle.whole_run.specs.Inputs.{IsTooLong}

abbrev too_large : DumpFault
too_large = record { offset = 0; kind = kind.TooLarge }

abbrev refused : Result Session DumpFault
refused = Err too_large

long_session : (bytes : List ℕ) → ltb (most_bytes bytes) (length bytes) ≡ true → session_loaded bytes ≡ refused
unfolding session_loaded base_loaded
long_session bytes long = rw long refl

long_dump : (bytes : List ℕ) → ltb longest_dump (length bytes) ≡ true → dump_loaded bytes ≡ refused
unfolding dump_loaded loaded
long_dump bytes long = rw long refl

refused_by : (bytes : List ℕ) (b : Bool) → begins_session bytes ≡ b → IsTooLong bytes → cond b (session_loaded bytes) (dump_loaded bytes) ≡ refused
refused_by bytes true e long = long_session bytes (lt-ltb _ _ long)
refused_by bytes false e long =
    let most : most_bytes bytes ≡ longest_dump = ap (λ (b : Bool). cond b longest_session longest_dump) e in
    long_dump bytes (lt-ltb _ _ (subst (λ (n : ℕ). n < length bytes) most long))

pub too_long : (bytes : List ℕ) → IsTooLong bytes → opened bytes ≡ refused
unfolding opened
too_long bytes long = refused_by bytes (begins_session bytes) refl long

pub if_too_long : (known : Option (List ℕ)) → IfSome known IsTooLong → IfSome known (λ bytes. opened bytes ≡ Err (record { offset = 0; kind = kind.TooLarge }))
if_too_long None long = tt
if_too_long (Some bytes) long = too_long bytes long
