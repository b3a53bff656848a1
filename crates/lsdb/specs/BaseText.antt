-- The base of a session, which the dump of a session, version 2, begins with.
use Rattle.std.specs.Prelude.{ℕ, List, ◌++◌}
use Rattle.std.specs.List.{flat_map}
use Rattle.std.specs.Int.{w8, w32, to_be_bytes}
use Rattle.lsdb.specs.Lists.{Lists}
use Rattle.lsdb.specs.Text.{magic, section_text, area_count}

abbrev pub session_version : ℕ
session_version = 2

-- the magic and the version
abbrev pub session_start : List ℕ
session_start = to_be_bytes w32 magic ++ to_be_bytes w8 session_version

-- how many areas there are, the areas, and the LSAs of AS scope
abbrev pub sections_text : Lists → List ℕ
sections_text db = to_be_bytes w8 (area_count db) ++ flat_map section_text db

unfoldable pub base_text : Lists → List ℕ
base_text db = session_start ++ sections_text db
