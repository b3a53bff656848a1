-- What loading answers: the sections of the database, or the first fault from front to back.
use Rattle.std.specs.Prelude.{◌≡◌, ◌⊎◌, ℕ, zero, suc, ◌+◌, Bool, true, List, [], ◌∷◌, ◌++◌, length, take, drop, Option, Some, None, Result, Ok, Err, nat_lt, ◌==◌, ◌&&◌, if◌then◌else◌}
use Rattle.std.specs.List.{list_any}
use Rattle.std.specs.Int.{Width, w8, w16, w32, byte_len, from_be_bytes}
use Rattle.lsa_codec.specs.declared.fault.LsaFault.{LsaFault}
use Rattle.lsa_codec.specs.Areas.{is_backbone}
use Rattle.lsa_codec.specs.Key.{key_of}
use Rattle.lsa_codec.specs.Decoding.{decoded}
use Rattle.lsdb.specs.declared.fault.DumpFault.{DumpFault}
use Rattle.lsdb.specs.declared.fault.DumpFaultKind.{DumpFaultKind}
use Rattle.lsdb.specs.declared.fault.DumpFaultKind.TheVariants.{BadMagic, BadVersion, Truncated, TrailingBytes, TooManyAreas, AreaOrder, BadAreaKind, TooManyLsas, Lsa, WrongSection, DuplicateLsa, BackboneStub, TooLarge, OutOfMemory}
use Rattle.lsdb.specs.Lists.{AreaHead, SectionLsas, Lists, is_in_scope, limit_of, has_key}
use Rattle.lsdb.specs.Limits.{most_areas, longest_dump}
use Rattle.lsdb.specs.Text.{magic, version}

-- a position in the dump: how many bytes stand before it, and those that follow
pub record At : Type 0 where
  pub offset : ℕ
  pub rest : List ℕ

infixl 10 ◌>>=◌
abbrev pub ◌>>=◌ : {A B : Type 0} → Result A DumpFault → (A → Result B DumpFault) → Result B DumpFault
(Ok x) >>= f = f x
(Err e) >>= f = Err e

abbrev pub fault : {A : Type 0} → At → DumpFaultKind → Result A DumpFault
fault at kind = Err (record { offset = at.offset; kind = kind })

abbrev pub advanced : ℕ → At → At
advanced n at = record { offset = at.offset + n; rest = drop n at.rest }

-- a number of the container, and the position after it
abbrev pub number_at : Width → At → Result (ℕ × At) DumpFault
number_at w at =
    if nat_lt (length at.rest) (byte_len w) then fault at Truncated else
    Ok (from_be_bytes w (take (byte_len w) at.rest), advanced (byte_len w) at)

-- ---- the LSAs of a section

-- an LSA that was decoded, and the position after it
abbrev pub placed : Option AreaHead → At → Result (List ℕ) LsaFault → Result (List ℕ × At) DumpFault
placed area at (Err f) = fault at (Lsa f)
placed area at (Ok lsa) = if is_in_scope area (key_of lsa) then Ok (lsa, advanced (length lsa) at) else fault at WrongSection

unfoldable pub lsa_at : Option AreaHead → At → Result (List ℕ × At) DumpFault
lsa_at area at = placed area at (decoded at.rest)

-- whether one of the LSAs has the key of another
abbrev pub has_key_of : List (List ℕ) → List ℕ → Bool
has_key_of lsas lsa = list_any (has_key (key_of lsa)) lsas

-- n more LSAs, after those that were seen in the section
unfoldable pub lsas_from : Option AreaHead → ℕ → List (List ℕ) → At → Result (List (List ℕ) × At) DumpFault
lsas_from area zero seen at = Ok (seen, at)
lsas_from area (suc n) seen at = do
  lsa ← lsa_at area at
  if has_key_of seen lsa.0 then fault at DuplicateLsa else lsas_from area n (seen ++ lsa.0 ∷ []) lsa.1

abbrev pub counted_at : Option AreaHead → At → ℕ × At → Result (List (List ℕ) × At) DumpFault
counted_at area at count = if nat_lt (limit_of area) count.0 then fault at TooManyLsas else lsas_from area count.0 [] count.1

unfoldable pub section_at : Option AreaHead → At → Result (SectionLsas × At) DumpFault
section_at area at = do
  count ← number_at w16 at
  lsas ← counted_at area at count
  Ok (record { area = area; lsas = lsas.0 }, lsas.1)

-- ---- the areas

-- whether an ID is above that of the area before
abbrev pub is_above : ℕ → Option AreaHead → Bool
is_above id None = true
is_above id (Some before) = nat_lt before.id id

unfoldable pub id_at : Option AreaHead → At → Result (ℕ × At) DumpFault
id_at before at = do
  id ← number_at w32 at
  if is_above id.0 before then Ok id else fault at AreaOrder

unfoldable pub kind_at : ℕ → At → Result (Bool × At) DumpFault
kind_at id at = do
  kind ← number_at w8 at
  if nat_lt 1 kind.0 then fault at BadAreaKind else
      if is_backbone (record { 0 = id }) && (kind.0 == 1) then fault at BackboneStub else Ok (kind.0 == 1, kind.1)

-- an area after another
unfoldable pub area_at : Option AreaHead → At → Result (SectionLsas × At) DumpFault
area_at before at = do
  id ← id_at before at
  kind ← kind_at id.0 id.1
  section_at (Some (record { id = id.0; is_stub = kind.0 })) kind.1

-- n more areas, after those that were seen
unfoldable pub areas_from : ℕ → Option AreaHead → Lists → At → Result (Lists × At) DumpFault
areas_from zero before seen at = Ok (seen, at)
areas_from (suc n) before seen at = do
  area ← area_at before at
  areas_from n area.0.area (seen ++ area.0 ∷ []) area.1

-- ---- the dump

unfoldable pub magic_at : At → Result At DumpFault
magic_at at = do
  found ← number_at w32 at
  if found.0 == magic then Ok found.1 else fault at BadMagic

unfoldable pub version_at : At → Result At DumpFault
version_at at = do
  found ← number_at w8 at
  if found.0 == version then Ok found.1 else fault at BadVersion

unfoldable pub area_count_at : At → Result (ℕ × At) DumpFault
area_count_at at = do
  count ← number_at w8 at
  if nat_lt most_areas count.0 then fault at TooManyAreas else Ok count

-- the areas, and after them the LSAs of AS scope
unfoldable pub sections_at : At → Result (Lists × At) DumpFault
sections_at at = do
  count ← area_count_at at
  areas ← areas_from count.0 None [] count.1
  as_wide ← section_at None areas.1
  Ok (areas.0 ++ as_wide.0 ∷ [], as_wide.1)

-- the bytes end where the dump ends
abbrev pub ended : {A : Type 0} → A × At → Result A DumpFault
ended found = if length found.1.rest == 0 then Ok found.0 else fault found.1 TrailingBytes

unfoldable pub dump_at : At → Result Lists DumpFault
dump_at at = do
  start ← magic_at at
  first ← version_at start
  found ← sections_at first
  ended found

abbrev pub beginning : List ℕ → At
beginning bytes = record { offset = 0; rest = bytes }

unfoldable pub loaded : List ℕ → Result Lists DumpFault
loaded bytes = if nat_lt longest_dump (length bytes) then fault (beginning bytes) TooLarge else dump_at (beginning bytes)

-- ---- the front of a dump: what is read of it before memory is asked for

-- an LSA that was decoded, whether it belongs here or not
abbrev pub accepted : At → Result (List ℕ) LsaFault → Result (List ℕ) DumpFault
accepted at (Err f) = fault at (Lsa f)
accepted at (Ok lsa) = Ok lsa

-- the first of n LSAs
abbrev pub first_lsa_at : ℕ → At → Result (List ℕ) DumpFault
first_lsa_at zero at = Ok []
first_lsa_at (suc n) at = accepted at (decoded at.rest)

-- how many LSAs a section has, and the first of them
unfoldable pub section_front_at : Option AreaHead → At → Result (List ℕ) DumpFault
section_front_at area at = do
  count ← number_at w16 at
  if nat_lt (limit_of area) count.0 then fault at TooManyLsas else first_lsa_at count.0 count.1

-- the first of all areas
unfoldable pub area_front_at : At → Result (List ℕ) DumpFault
area_front_at at = do
  id ← id_at None at
  kind ← kind_at id.0 id.1
  section_front_at (Some (record { id = id.0; is_stub = kind.0 })) kind.1

-- the first section of n areas and the LSAs of AS scope
abbrev pub first_section_at : ℕ → At → Result (List ℕ) DumpFault
first_section_at zero at = section_front_at None at
first_section_at (suc n) at = area_front_at at

-- how many areas there are, and the first section
unfoldable pub sections_front_at : At → Result (List ℕ) DumpFault
sections_front_at at = do
  count ← area_count_at at
  first_section_at count.0 count.1

unfoldable pub front_at : At → Result (List ℕ) DumpFault
front_at at = do
  start ← magic_at at
  first ← version_at start
  sections_front_at first

-- the first LSA of the front, or none, or the first fault of the front
unfoldable pub front_loaded : List ℕ → Result (List ℕ) DumpFault
front_loaded bytes = if nat_lt longest_dump (length bytes) then fault (beginning bytes) TooLarge else front_at (beginning bytes)

-- want of memory is reported at 0
abbrev pub no_memory : DumpFault
no_memory = record { offset = 0; kind = OutOfMemory }

-- the fault is want of memory, or the first fault of the bytes
abbrev pub IsFirstFault : {A : Type 0} → DumpFault → Result A DumpFault → Type 0
IsFirstFault fault answer = (fault ≡ no_memory) ⊎ (answer ≡ Err fault)
