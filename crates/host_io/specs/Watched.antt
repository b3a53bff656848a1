-- What a clause says of a watched reader or writer.
use Rattle.std.specs.Prelude.{ℕ, Bool, true, false, ◌==◌, ◌&&◌, not, List, length, Result, Ok, Err}
use Rattle.host_io.specs.declared.watch.Watched.{Watched}

-- the reader or writer that is watched
abbrev pub inner_of : {T : Type 0} → Watched T → T
inner_of w = w.inner

-- whether a call that went through it has failed
abbrev pub has_failed : {T : Type 0} → Watched T → Bool
has_failed w = w.failed

-- whether a read that went through it has found the end
abbrev pub has_ended : {T : Type 0} → Watched T → Bool
has_ended w = w.ended

-- whether it was flushed, and nothing was written since
abbrev pub is_flushed : {T : Type 0} → Watched T → Bool
is_flushed w = w.flushed

-- a read finds the end where it gives no byte for a buffer that has room
abbrev pub is_end : {E : Type 0} → Result ℕ E → List ℕ → Bool
is_end (Ok count) buf = (count == 0) && not (length buf == 0)
is_end (Err e) buf = false

-- a write fails where it answers an error, or takes no byte of a text that has one
abbrev pub is_failed_write : {E : Type 0} → Result ℕ E → List ℕ → Bool
is_failed_write (Ok count) text = (count == 0) && not (length text == 0)
is_failed_write (Err e) text = true
