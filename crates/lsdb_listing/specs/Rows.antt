-- The fields of a row: those of an LSA's header (RFC 2328, A.4.1) that are printed.
use Rattle.std.specs.Prelude.{ℕ, ◌==◌, ◌&&◌, ◌∷◌, length, Option, Some, None, if◌then◌else◌}
use Rattle.lsa_codec.specs.declared.address.AreaId.{AreaId}
use Rattle.frr_text.specs.Words.{Word}
use Rattle.frr_text.specs.Labels.{first_word}
use Rattle.text_words.specs.Numbers.{number_up_to, hex_up_to}
use Rattle.text_words.specs.Addresses.{address_of}
use Rattle.frr_text.specs.Rules.{◌>>=◌, Rule}
use Rattle.lsdb_listing.specs.declared.heading.Heading.{Heading}
use Rattle.lsdb_listing.specs.declared.heading.Heading.TheVariants as headings
use Rattle.lsdb_listing.specs.declared.row.Row.{Row}
use Rattle.lsdb_listing.specs.Lines.{Line}

-- the number that a word spells in hexadecimal with this many digits, leading zeros among them, where it is at most
-- max: a word that was cut spells none
unfoldable pub hex_of : ℕ → ℕ → Word → Option ℕ
hex_of count max word = if length word == count then hex_up_to max word else None

-- the same after `0x` (48 and 120)
unfoldable pub marked_hex_of : ℕ → ℕ → Word → Option ℕ
marked_hex_of count max (first ∷ second ∷ digits) = if first == 48 && second == 120 then hex_of count max digits else None
marked_hex_of count max _ = None

-- the value of the first word by a rule
abbrev pub value_of : (Word → Option ℕ) → Rule ℕ
value_of rule line = do
  found ← first_word line
  value ← rule found.0
  Some (value, found.1)

-- a row of a table of this LS type: Link State ID, Advertising Router, LS age in decimal, LS sequence number and LS
-- checksum, in eight and in four hexadecimal digits after `0x`
unfoldable pub table_row : ℕ → Line → Option Row
table_row kind line = do
  id ← value_of address_of line
  adv ← value_of address_of id.1
  age ← value_of (number_up_to 0xffff) adv.1
  sequence ← value_of (marked_hex_of 8 0xffffffff) age.1
  checksum ← value_of (marked_hex_of 4 0xffff) sequence.1
  Some (record {
    key = record { kind = kind; id = record { 0 = id.0 }; adv = record { 0 = adv.0 } };
    instance = record { sequence = sequence.0; checksum = checksum.0 };
    age = age.0;
  })

-- a row of a section: LS type in four hexadecimal digits, Link State ID, Advertising Router, LS sequence number in eight
-- hexadecimal digits, LS age in decimal, and LS checksum in four hexadecimal digits
unfoldable pub section_row : Line → Option Row
section_row line = do
  kind ← value_of (hex_of 4 0xff) line
  id ← value_of address_of kind.1
  adv ← value_of address_of id.1
  sequence ← value_of (hex_of 8 0xffffffff) adv.1
  age ← value_of (number_up_to 0xffff) sequence.1
  checksum ← value_of (hex_of 4 0xffff) age.1
  Some (record {
    key = record { kind = kind.0; id = record { 0 = id.0 }; adv = record { 0 = adv.0 } };
    instance = record { sequence = sequence.0; checksum = checksum.0 };
    age = age.0;
  })

-- what follows these fields is ignored
abbrev pub row_under : Heading → Line → Option Row
row_under (headings.Table kind area) line = table_row kind line
row_under (headings.Section area) line = section_row line

-- the area that a heading names
abbrev pub area_under : Heading → Option AreaId
area_under (headings.Table kind area) = area
area_under (headings.Section area) = area
