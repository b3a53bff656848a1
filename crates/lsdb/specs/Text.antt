-- The dump of a database, version 1.
use Rattle.std.specs.Prelude.{ℕ, Bool, List, [], ◌++◌, length, ◌-◌, Option, Some, None, if◌then◌else◌}
use Rattle.std.specs.List.{flat_map, concat}
use Rattle.std.specs.Int.{w8, w16, w32, to_be_bytes}
use Rattle.lsdb.specs.Lists.{AreaHead, SectionLsas, Lists}

-- the four letters OSWP
abbrev pub magic : ℕ
magic = 0x4f535750

abbrev pub version : ℕ
version = 1

abbrev pub kind_number : Bool → ℕ
kind_number is_stub = if is_stub then 1 else 0

-- the ID of an area and its kind, and nothing for the LSAs of AS scope
abbrev pub head_text : Option AreaHead → List ℕ
head_text None = []
head_text (Some area) = to_be_bytes w32 area.id ++ to_be_bytes w8 (kind_number area.is_stub)

-- the head, how many LSAs there are, and these one after another
abbrev pub section_text : SectionLsas → List ℕ
section_text section = head_text section.area ++ to_be_bytes w16 (length section.lsas) ++ concat section.lsas

-- all sections but the last are areas
abbrev pub area_count : Lists → ℕ
area_count db = length db - 1

unfoldable pub text : Lists → List ℕ
text db = to_be_bytes w32 magic ++ to_be_bytes w8 version ++ to_be_bytes w8 (area_count db) ++ flat_map section_text db
