-- The faults that the inputs of a run may end it with.
use Rattle.std.specs.Prelude.{◌≡◌, ◌≢◌, ◌+◌, ◌<◌, ℕ, List, length, Option, None, Some, Err, IsOk, IfSome}
use Rattle.lsdb.specs.declared.fault.DumpFaultKind.TheVariants as kind
use Rattle.lsdb.specs.declared.fault.DumpFault.{DumpFault}
use Rattle.lsdb.specs.Limits.{longest_session}
use Rattle.lsdb.specs.BaseLoading.{most_bytes}
use Rattle.saved_sessions.specs.Opening.{opened}

-- bytes that are the text of a database or of a session
abbrev pub IsAccepted : List ℕ → Type 0
IsAccepted bytes = IsOk (opened bytes)

-- the first fault of the bytes, where they are known, and never want of memory
abbrev pub IsRefusedDump : Option (List ℕ) → DumpFault → Type 0
IsRefusedDump known fault = (fault.kind ≢ kind.OutOfMemory) × IfSome known (λ bytes. opened bytes ≡ Err fault)

-- how many bytes of a dump are read at most: one past those that it may have. A session may have more than a dump
-- without edits
abbrev pub most_read : Option (List ℕ) → ℕ
most_read None = longest_session + 1
most_read (Some bytes) = most_bytes bytes + 1

-- more bytes than a dump, or a session, may have, by what they begin with
abbrev pub IsTooLong : List ℕ → Type 0
IsTooLong bytes = most_bytes bytes < length bytes

-- a script may have this number of bytes: 2^20
abbrev pub longest_script : ℕ
longest_script = 1048576
