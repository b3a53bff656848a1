-- What calls do to the streams of a run, by what they answer.
use Rattle.std.specs.Prelude.{◌≡◌, ◌≢◌, ◌+◌, ◌<◌, ◌≤◌, ℕ, List, length, Option, Result, is_some, IfErr, IfSome, OnOk}
use Rattle.std.specs.Io.KnownBytes.{Appends, Keeps}
use Rattle.host_io.specs.declared.watch.Watched.{Watched}
use Rattle.host_io.specs.WholeText.{AppendsPrefix, ConsumesAtMost}
use Rattle.whole_run.specs.Inputs.{IsAccepted, longest_script, most_read}
use Rattle.whole_run.specs.Order.{AreFlushed, RepliesBefore, OutAfter, SaveAfter}
use Rattle.whole_run.specs.WholeRun.{IfBoth, IsBeforeReplies, MayEndRun}
use Rattle.whole_run.specs.declared.fault.RunFault.{RunFault}
use Rattle.whole_run.specs.declared.fault.RunFault.TheVariants.{Write}

-- ---- what is written

-- a writer got the text that a dump and a script call for, where both are known
abbrev pub IsWritten : (List ℕ → List ℕ → List ℕ) → Option (List ℕ) → Option (List ℕ) → Option (List ℕ) → Option (List ℕ) → Type 0
IsWritten text dump script old new = IfBoth dump script (λ bytes known. Appends old new (text bytes known))

-- it got the whole text where a call succeeds, and a prefix of it in any case
pub record Writes {T : Type 0} (text : List ℕ → List ℕ → List ℕ) (dump script : Option (List ℕ)) (result : Result T RunFault)
    (old new : Option (List ℕ)) : Type 0 where
  pub whole : OnOk result (IsWritten text dump script old new)
  pub prefix : IfBoth dump script (λ bytes known. AppendsPrefix old new (text bytes known))

-- the replies come first, then the dump, then the session, and each is flushed before the next is begun
pub record WritesInOrder {T F W D E : Type 0} (replies_whole out_whole : Type 0) (result : Result T F) (replies : Watched W)
    (out new_out : Option (Watched D)) (save new_save : Option (Watched E)) : Type 0 where
  pub flushed : OnOk result (AreFlushed replies new_out new_save)
  pub replies_before : RepliesBefore replies out new_out save new_save
  pub out_after : OutAfter replies_whole replies new_out save new_save
  pub save_after : SaveAfter replies_whole out_whole replies new_out new_save

-- ---- when faults come

-- a call succeeds only where the dump is accepted and the script is not too long, and ends with no fault but of these inputs
pub record FitsInputs {T : Type 0} (dump script : Option (List ℕ)) (result : Result T RunFault) : Type 0 where
  pub accepted : OnOk result (IfSome dump IsAccepted)
  pub within : OnOk result (IfSome script (λ bytes. length bytes ≤ longest_script))
  pub faults : IfErr result (MayEndRun dump script)

-- ---- what is left alone

-- no reply was written where a fault came before the first one, or where a rest of the script was not read
pub record KeepsReplies {T : Type 0} (result : Result T RunFault) (rest old new : Option (List ℕ)) : Type 0 where
  pub before : IfErr result (λ fault. IsBeforeReplies fault → Keeps old new)
  pub unread : IfSome rest (λ bytes. 0 < length bytes → Keeps old new)

-- a writer that may be given is given after the call where it was before, and as it was after each fault but of writing
pub record KeepsWriter {T W : Type 0} (result : Result T RunFault) (old new : Option W) : Type 0 where
  pub untouched : IfErr result (λ fault. fault ≢ Write → new ≡ old)
  pub given : is_some new ≡ is_some old

-- at most one byte is read past those that a dump, and a script, may have
pub record ReadsAtMost (dump new_dump script new_script : Option (List ℕ)) : Type 0 where
  pub of_dump : ConsumesAtMost dump new_dump (most_read dump)
  pub of_script : ConsumesAtMost script new_script (longest_script + 1)
