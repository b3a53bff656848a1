-- Fields of LSAs that differ, and how they are shown (RFC 2328, A.4.2 to A.4.5).
use Rattle.std.specs.Prelude.{ℕ, ◌==◌, if◌then◌else◌, Bool, List, [], ◌∷◌, ◌++◌, bit_and, codes, decimal}
use Rattle.lsa_codec.specs.Fields.{byte_at}
use Rattle.lsa_codec.specs.Spelling.{address_text}
use Rattle.lsa_codec.specs.Views.{is_type2_of}
use Rattle.lsa_changes.specs.declared.field.Field.{Field}
use Rattle.lsa_changes.specs.declared.field.Field.TheVariants.{Bits, Mask, MetricType, Metric, Forward, Tag}
use Rattle.lsa_changes.specs.declared.field.FieldChange.{FieldChange}

-- ---- values

-- the bits V (4), E (2) and B (1) of a router-LSA
abbrev pub bits_of : List ℕ → ℕ
bits_of lsa = bit_and (byte_at 20 lsa) 7

-- the type of an external metric
abbrev pub type_number : Bool → ℕ
type_number is_type2 = if is_type2 then 2 else 1

abbrev pub type_of : List ℕ → ℕ
type_of lsa = type_number (is_type2_of lsa)

-- a field before and now, where it differs
abbrev pub field_change : Field → ℕ → ℕ → List FieldChange
field_change field before now = if before == now then [] else record { field = field; before = before; now = now } ∷ []

-- ---- texts

-- a letter, where a bit is set
abbrev pub letter_of : ℕ → ℕ → List ℕ → List ℕ
letter_of bits bit letter = if bit_and bits bit == 0 then [] else letter

-- the letters of the bits that are set, or a dash
abbrev pub bits_text : ℕ → List ℕ
bits_text bits =
    if bits == 0 then codes "-" else letter_of bits 4 (codes "V") ++ letter_of bits 2 (codes "E") ++ letter_of bits 1 (codes "B")

abbrev pub value_text : Field → ℕ → List ℕ
value_text Bits bits = bits_text bits
value_text Mask len = codes "/" ++ decimal len
value_text MetricType number = decimal number
value_text Metric metric = decimal metric
value_text Forward address = address_text address
value_text Tag tag = decimal tag

abbrev pub field_name : Field → List ℕ
field_name Bits = codes "bits"
field_name Mask = codes "mask"
field_name MetricType = codes "type"
field_name Metric = codes "metric"
field_name Forward = codes "forward"
field_name Tag = codes "tag"

abbrev pub field_text : FieldChange → List ℕ
field_text change =
    field_name change.field ++ codes " " ++ value_text change.field change.before ++ codes " -> " ++ value_text change.field change.now
