-- What the objects of the OSPF-MIB are about (RFC 4750).
use Rattle.std.specs.Prelude.{ℕ, ◌+◌, ◌==◌, ◌&&◌, not, nat_lt, length, List, [], ◌∷◌, take, drop, position, Option, Some, None, if◌then◌else◌}
use Rattle.std.specs.Int.{w32, from_be_bytes}
use Rattle.std.specs.List.{slice_split}
use Rattle.lsa_codec.specs.declared.key.Key.{Key}
use Rattle.findings.specs.declared.reported_lsa.ReportedLsa.{ReportedLsa}
use Rattle.snmp_walk.specs.declared.subject.Subject.{Subject}
use Rattle.snmp_walk.specs.declared.subject.Subject.TheVariants.{Kind, Bytes, Column, Count, Other, Unreadable, Foreign}
use Rattle.snmp_walk.specs.Text.{is_dot, after}
use Rattle.snmp_walk.specs.Names.{◌>>=◌, ospf, head_of, arcs_after}

-- an arc that is one byte
abbrev pub byte_of : ℕ → Option ℕ
byte_of arc = if nat_lt arc 256 then Some arc else None

-- four arcs, the bytes of an address, the highest first
unfoldable pub address_of : List ℕ → Option ℕ
address_of (a ∷ b ∷ c ∷ d ∷ []) = do
  first ← byte_of a
  second ← byte_of b
  third ← byte_of c
  fourth ← byte_of d
  Some (from_be_bytes w32 (first ∷ second ∷ third ∷ fourth ∷ []))
address_of _ = None

-- LS type, Link State ID and Advertising Router
unfoldable pub key_in : List ℕ → Option Key
key_in [] = None
key_in (arc ∷ names) = do
  kind ← byte_of arc
  id ← address_of (take 4 names)
  adv ← address_of (drop 4 names)
  Some (record { kind = kind; id = record { 0 = id }; adv = record { 0 = adv } })

-- the row of a table outside of the areas
unfoldable pub as_row : List ℕ → Option ReportedLsa
as_row index = do
  key ← key_in index
  Some (record { area = None; key = key })

-- the row of the area's LSA
unfoldable pub area_row : List ℕ → Option ReportedLsa
area_row index = do
  area ← address_of (take 4 index)
  key ← key_in (drop 4 index)
  Some (record { area = Some (record { 0 = area }); key = key })

-- ospfImportAsExtern is 3, and ospfAreaLsaCount 7
abbrev pub area_object : ℕ → Option ℕ → Subject
area_object column None = Unreadable
area_object column (Some area) = if column == 3 then Kind (record { 0 = area }) else Count (Some (record { 0 = area }))

abbrev pub area_subject : ℕ → List ℕ → Subject
area_subject column index = if not (column == 3) && not (column == 7) then Other else area_object column (address_of index)

-- the column with this number has the bytes of the LSA
abbrev pub row_subject : ℕ → ℕ → Option ReportedLsa → Subject
row_subject bytes column None = Unreadable
row_subject bytes column (Some row) = if column == bytes then Bytes row else Column row

-- ospfAreaTable is 2; ospfLsdbTable 4, with ospfLsdbAdvertisement 8; ospfExtLsdbTable 12 and ospfAsLsdbTable 19, with
-- ospfExtLsdbAdvertisement and ospfAsLsdbAdvertisement 7
abbrev pub entry_subject : ℕ → ℕ → List ℕ → Subject
entry_subject table column index =
    if table == 4 then row_subject 8 column (area_row index)
    else if table == 12 then row_subject 7 column (as_row index)
    else if table == 19 then row_subject 7 column (as_row index)
    else if table == 2 then area_subject column index
    else Other

-- ospfExternLsaCount.0 is 1.6.0
abbrev pub scalar_subject : ℕ → ℕ → ℕ → List ℕ → Subject
scalar_subject group object instance index =
    if (group == 1) && (object == 6) && (instance == 0) && (length index == 0) then Count None else Other

-- the arcs after that of the MIB: of a table, of its rows (1), of a column, and the index; or of an object that is no row
unfoldable pub inner_subject : List ℕ → Subject
inner_subject (table ∷ entry ∷ column ∷ index) = if entry == 1 then entry_subject table column index else scalar_subject table entry column index
inner_subject _ = Other

abbrev pub inside : Option (List ℕ) → Subject
inside None = Foreign
inside (Some arcs) = inner_subject arcs

abbrev pub arcs_subject : Option (List ℕ) → Subject
arcs_subject None = Unreadable
arcs_subject (Some arcs) = inside (after ospf arcs)

abbrev pub words_subject : Option (List ℕ) → List (List ℕ) → Subject
words_subject None words = Foreign
words_subject (Some arcs) words = arcs_subject (arcs_after arcs words)

abbrev pub cut_subject : List ℕ → Option ℕ → Subject
cut_subject name None = Foreign
cut_subject name (Some end) = words_subject (head_of (take end name)) (slice_split is_dot (drop (end + 1) name))

-- what an object of this name is about
abbrev pub subject_of : List ℕ → Subject
subject_of name = cut_subject name (position is_dot name)
