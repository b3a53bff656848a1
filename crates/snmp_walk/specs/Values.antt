-- The values of objects, as net-snmp prints them.
use Rattle.std.specs.Prelude.{ℕ, ◌==◌, ◌||◌, not, Bool, true, false, List, [], ◌∷◌, ◌++◌, codes, bytes_eq, filter, Option, Some, None, is_some, if◌then◌else◌, Result, Ok, Err}
use Rattle.std.specs.List.{list_all}
use Rattle.hex.specs.Hex.{decode_of}
use Rattle.lsa_instances.specs.declared.area.AreaKind.{AreaKind}
use Rattle.lsa_instances.specs.declared.area.AreaKind.TheVariants.{Ordinary, Stub, Nssa}
use Rattle.snmp_walk.specs.Text.{is_blank, after, first_word}
use Rattle.snmp_walk.specs.Names.{◌>>=◌, number_of}

-- printed in place of a value where the agent has no more objects, after the last name once more
abbrev pub is_end_of_view : List ℕ → Bool
is_end_of_view value = is_some (after (codes "No more variables left in this MIB View") value)

-- printed in place of a value where the agent does not have the object: noSuchObject and noSuchInstance (RFC 3416, 4.2.1)
abbrev pub is_absent : List ℕ → Bool
is_absent value =
    is_some (after (codes "No Such Object available on this agent at this OID") value)
    || is_some (after (codes "No Such Instance currently exists at this OID") value)

abbrev pub ok : {A E : Type 0} → Result A E → Option A
ok (Ok x) = Some x
ok (Err e) = None

-- two hexadecimal digits for each byte; blanks do not count
abbrev pub pairs_of : List ℕ → Option (List ℕ)
pairs_of text = ok (decode_of (filter (λ byte. not (is_blank byte)) text))

abbrev pub else_some : {A : Type 0} → Option A → A → A
else_some (Some x) other = x
else_some None other = other

-- bytes between quotes (0x22), after those that were read before. A byte after a backslash (0x5c) stands for itself;
-- only blanks follow the closing quote
unfoldable pub quoted_after : List ℕ → Bool → List ℕ → Option (List ℕ)
quoted_after bytes escaped [] = None
quoted_after bytes true (byte ∷ text) = quoted_after (bytes ++ byte ∷ []) false text
quoted_after bytes false (byte ∷ text) =
    if byte == 0x22 then (if list_all is_blank text then Some bytes else None)
    else if byte == 0x5c then quoted_after bytes true text
    else quoted_after (bytes ++ byte ∷ []) false text

-- printable bytes between quotes; no bytes at all are printed as the quotes alone
unfoldable pub string_in : List ℕ → Option (List ℕ)
string_in value = after (0x22 ∷ []) (else_some (after (codes "STRING: ") value) value) >>= quoted_after [] false

abbrev pub bytes_after : List ℕ → Option (List ℕ) → Option (List ℕ)
bytes_after value None = string_in value
bytes_after value (Some text) = pairs_of text

-- the bytes of a value: in hexadecimal, or, where all are printable, perhaps as a string
abbrev pub bytes_in : List ℕ → Option (List ℕ)
bytes_in value = bytes_after value (after (codes "Hex-STRING:") value)

-- ospfImportAsExtern (RFC 4750), with a MIB and without
abbrev pub kind_named : List ℕ → Option AreaKind
kind_named word =
    if bytes_eq word (codes "1") then Some Ordinary
    else if bytes_eq word (codes "importExternal(1)") then Some Ordinary
    else if bytes_eq word (codes "2") then Some Stub
    else if bytes_eq word (codes "importNoExternal(2)") then Some Stub
    else if bytes_eq word (codes "3") then Some Nssa
    else if bytes_eq word (codes "importNssa(3)") then Some Nssa
    else None

unfoldable pub kind_in : List ℕ → Option AreaKind
kind_in value = after (codes "INTEGER: ") value >>= (λ text. kind_named (first_word text))

-- the number in a value of a count
unfoldable pub count_in : List ℕ → Option ℕ
count_in value = after (codes "Gauge32: ") value >>= (λ text. number_of (first_word text))
