-- The names of objects, as lists of numbers (X.660): their arcs. In place of numbers, names may have words of the MIB.
use Rattle.std.specs.Prelude.{ℕ, ◌+◌, List, [], ◌∷◌, ◌++◌, codes, bytes_eq, Option, Some, None, is_some, option_map, position, if◌then◌else◌}
pub use Rattle.text_words.specs.Options.{◌>>=◌}
use Rattle.text_words.specs.Numbers.{decimal_up_to}
use Rattle.snmp_walk.specs.Text.{after}

-- a decimal number of at most 32 bits
abbrev pub number_of : List ℕ → Option ℕ
number_of word = decimal_up_to 0xffffffff word

-- the words of the OSPF-MIB for LS types (ospfLsdbType, ospfAsLsdbType and ospfLocalLsdbType of RFC 4750): from 1 on, and
-- from 9 on
abbrev pub links : List (List ℕ)
links =
    codes "routerLink" ∷ codes "networkLink" ∷ codes "summaryLink" ∷ codes "asSummaryLink" ∷ codes "asExternalLink"
    ∷ codes "multicastLink" ∷ codes "nssaExternalLink" ∷ []

abbrev pub opaque_links : List (List ℕ)
opaque_links = codes "localOpaqueLink" ∷ codes "areaOpaqueLink" ∷ codes "asOpaqueLink" ∷ []

-- the LS type of a place among the first words, else of a place among the others
abbrev pub type_at : Option ℕ → Option ℕ → Option ℕ
type_at (Some place) other = Some (place + 1)
type_at None other = option_map (λ place. place + 9) other

unfoldable pub type_named : List ℕ → Option ℕ
type_named word = type_at (position (bytes_eq word) links) (position (bytes_eq word) opaque_links)

-- a number, or the word for an LS type
abbrev pub arc_of : List ℕ → Option ℕ
arc_of word = if is_some (number_of word) then number_of word else type_named word

-- the arcs that these words spell, after those that were spelled before
unfoldable pub arcs_after : List ℕ → List (List ℕ) → Option (List ℕ)
arcs_after arcs [] = Some arcs
arcs_after arcs (word ∷ words) = arc_of word >>= (λ arc. arcs_after (arcs ++ arc ∷ []) words)

-- what the columns of the tables of LSAs are called after the name of the table, in the order of the tables that are not
-- of areas; those of ospfLsdbTable have one more, since ospfLsdbAreaId is the first
abbrev pub columns : List (List ℕ)
columns =
    codes "AreaId" ∷ codes "Type" ∷ codes "Lsid" ∷ codes "RouterId" ∷ codes "Sequence" ∷ codes "Age" ∷ codes "Checksum"
    ∷ codes "Advertisement" ∷ []

unfoldable pub column_named : List ℕ → Option ℕ
column_named word = position (bytes_eq word) columns

-- a table and a column; what is not needed here counts as table 0, which does not exist
abbrev pub in_table : ℕ → ℕ → Option ℕ → ℕ × ℕ
in_table table before None = (0, 0)
in_table table before (Some column) = (table, column + before)

abbrev pub in_as_table : Option (List ℕ) → ℕ × ℕ
in_as_table None = (0, 0)
in_as_table (Some column) = in_table 19 0 (column_named column)

abbrev pub in_external_table : List ℕ → Option (List ℕ) → ℕ × ℕ
in_external_table word None = in_as_table (after (codes "ospfAsLsdb") word)
in_external_table word (Some column) = in_table 12 0 (column_named column)

abbrev pub in_area_table : List ℕ → Option (List ℕ) → ℕ × ℕ
in_area_table word None = in_external_table word (after (codes "ospfExtLsdb") word)
in_area_table word (Some column) = in_table 4 1 (column_named column)

-- the table and the column that a word of the OSPF-MIB names
unfoldable pub object_named : List ℕ → ℕ × ℕ
object_named word =
    if bytes_eq word (codes "ospfImportAsExtern") then (2, 3)
    else if bytes_eq word (codes "ospfAreaLsaCount") then (2, 7)
    else in_area_table word (after (codes "ospfLsdb") word)

-- OSPF in MIB-2
abbrev pub ospf : List ℕ
ospf = 1 ∷ 3 ∷ 6 ∷ 1 ∷ 2 ∷ 1 ∷ 14 ∷ []

abbrev pub named_head : Option (List ℕ) → Option (List ℕ)
named_head None = None
named_head (Some word) = Some (ospf ++ (object_named word).0 ∷ 1 ∷ (object_named word).1 ∷ [])

-- what the first word of a name stands for: nothing stands before the dot of `.1.3.6`, and `iso` is 1. The other words
-- come from MIB-2 and the OSPF-MIB, of which ospfExternLsaCount is the only one that is no column
unfoldable pub head_of : List ℕ → Option (List ℕ)
head_of word =
    if bytes_eq word [] then Some []
    else if bytes_eq word (codes "iso") then Some (1 ∷ [])
    else if bytes_eq word (codes "OSPF-MIB::ospfExternLsaCount") then Some (1 ∷ 3 ∷ 6 ∷ 1 ∷ 2 ∷ 1 ∷ 14 ∷ 1 ∷ 6 ∷ [])
    else if bytes_eq word (codes "SNMPv2-SMI::mib-2") then Some (1 ∷ 3 ∷ 6 ∷ 1 ∷ 2 ∷ 1 ∷ [])
    else named_head (after (codes "OSPF-MIB::") word)
