-- What loading the base of a session answers: the database and where its bytes end, or the first fault.
use Rattle.std.specs.Prelude.{ℕ, Bool, List, length, Result, Ok, nat_eq, nat_lt, ◌==◌, if◌then◌else◌}
use Rattle.std.specs.List.{starts_with}
use Rattle.std.specs.Int.{w8}
use Rattle.lsdb.specs.declared.fault.DumpFault.{DumpFault}
use Rattle.lsdb.specs.declared.fault.DumpFaultKind.TheVariants.{BadVersion, TooLarge}
use Rattle.lsdb.specs.Lists.{Lists, size}
use Rattle.lsdb.specs.Limits.{longest_dump, longest_session}
use Rattle.lsdb.specs.BaseText.{session_version, session_start}
use Rattle.lsdb.specs.Loading.{◌>>=◌, At, fault, number_at, magic_at, sections_at, sections_front_at, beginning}

-- whether bytes begin as the dump of a session does
abbrev pub begins_session : List ℕ → Bool
begins_session bytes = starts_with nat_eq bytes session_start

-- a session may have more bytes than other dumps
abbrev pub most_bytes : List ℕ → ℕ
most_bytes bytes = if begins_session bytes then longest_session else longest_dump

unfoldable pub session_version_at : At → Result At DumpFault
session_version_at at = do
  found ← number_at w8 at
  if found.0 == session_version then Ok found.1 else fault at BadVersion

unfoldable pub base_at : At → Result (Lists × At) DumpFault
base_at at = do
  start ← magic_at at
  first ← session_version_at start
  sections_at first

-- the dump of the base alone has its limit too
abbrev pub small_base : At → Lists × At → Result (Lists × ℕ) DumpFault
small_base start found = if nat_lt longest_dump (size found.0) then fault start TooLarge else Ok (found.0, found.1.offset)

-- the base, and how many bytes stand before what follows it
unfoldable pub base_loaded : List ℕ → Result (Lists × ℕ) DumpFault
base_loaded bytes =
    if nat_lt (most_bytes bytes) (length bytes) then fault (beginning bytes) TooLarge else
    base_at (beginning bytes) >>= small_base (beginning bytes)

-- ---- the front of a base: what is read of it before memory is asked for

unfoldable pub base_front_at : At → Result (List ℕ) DumpFault
base_front_at at = do
  start ← magic_at at
  first ← session_version_at start
  sections_front_at first

-- the first LSA of the front, or none, or the first fault of the front
unfoldable pub base_front_loaded : List ℕ → Result (List ℕ) DumpFault
base_front_loaded bytes =
    if nat_lt (most_bytes bytes) (length bytes) then fault (beginning bytes) TooLarge else base_front_at (beginning bytes)
