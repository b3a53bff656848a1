-- How an FRR router prints numbers, addresses, and the header of an LSA (RFC 2328, A.4.1), as words.
use Rattle.std.specs.Prelude.{ℕ, zero, suc, ◌+◌, ◌/◌, ◌%◌, ◌^◌, ◌<◌, ◌==◌, nat_lt, List, [], ◌∷◌, ◌++◌, Option, Some, None, IfSome, if◌then◌else◌, decimal}
use Rattle.lsa_codec.specs.Spelling.{address_text}
use Rattle.frr_text.specs.declared.header.AgeAndOptions.{AgeAndOptions}
use Rattle.frr_text.specs.declared.header.Header.{Header}
use Rattle.frr_text.specs.declared.header.Origination.{Origination}
use Rattle.frr_text.specs.declared.header.Name.{Name}
use Rattle.frr_text.specs.declared.header.ChecksumAndLength.{ChecksumAndLength}
use Rattle.frr_text.specs.declared.label.Label.{Label}
use Rattle.frr_text.specs.declared.label.Label.TheVariants as label
use Rattle.text_words.specs.declared.blanks.Blanks.TheVariants.{InText}
use Rattle.text_words.specs.Words as any
use Rattle.frr_text.specs.Words.{Word, words}
use Rattle.frr_text.specs.Labels.{text_of}
use Rattle.frr_text.specs.Fields.{type_label, id_label}

-- ---- one word

-- at least one byte, and no blank among them
abbrev pub IsWord : Word → Type 0
IsWord word = any.IsWord InText word

-- a hexadecimal digit: 0 to 9 (48 to 57), a to f (97 to 102)
abbrev pub printed_digit : ℕ → ℕ
printed_digit digit = if nat_lt digit 10 then 48 + digit else 87 + digit

-- the last hexadecimal digits of a number, of this count, with zeros before it where it is shorter
abbrev pub printed_hex : ℕ → ℕ → Word
printed_hex zero n = []
printed_hex (suc count) n = printed_hex count (n / 16) ++ printed_digit (n % 16) ∷ []

-- a byte in hexadecimal, after `0x` (48 and 120), without a zero before it
abbrev pub printed_byte : ℕ → Word
printed_byte n = 48 ∷ 120 ∷ (if nat_lt n 16 then printed_hex 1 n else printed_hex 2 n)

-- a slash (47), and the length of a mask
abbrev pub printed_mask : ℕ → Word
printed_mask len = 47 ∷ decimal len

-- ---- labels, and what is printed after them

abbrev pub label_words : Label → List Word
label_words label = words (text_of label)

abbrev pub said : Label → Word → List Word
said label word = label_words label ++ word ∷ []

-- ---- a header (A.4.1)

-- what is printed beside the fields of an LSA: the letters of the options, and the LS flags, which are the router's own
pub record Beside : Type 0 where
  pub letters : Word
  pub ls_flags : Word

pub record BesideFits (beside : Beside) : Type 0 where
  pub letters : IsWord beside.letters
  pub ls_flags : IsWord beside.ls_flags

abbrev pub age_and_options_words : Beside → AgeAndOptions → List Word
age_and_options_words beside first =
    said label.Age (decimal first.age) ++ said label.Options (printed_byte first.options)
    ++ said label.Letters beside.letters ++ said label.LsFlags beside.ls_flags

-- the name of a bit, where it is 1
abbrev pub bit_words : ℕ → ℕ → Label → List Word
bit_words flags weight label = if flags / weight % 2 == 1 then label_words label else []

-- the names of the bits B, E and V, and of one that is no part of A.4.2
abbrev pub names_of_bits : ℕ → List Word
names_of_bits flags =
    bit_words flags 1 label.BoundaryBit ++ bit_words flags 2 label.ExternalBit
    ++ bit_words flags 4 label.VirtualBit ++ bit_words flags 16 label.ShortcutBit

-- the byte of the bits V, E and B (A.4.2), and after a colon their names, where one is 1
abbrev pub flags_words : Option ℕ → List Word
flags_words None = []
flags_words (Some flags) =
    said label.Flags (printed_byte flags) ++ (if flags == 0 then [] else label_words label.Letters ++ names_of_bits flags)

abbrev pub name_words : Name → List Word
name_words name =
    label_words (type_label name.ls_type) ++ said label.Id (address_text name.id.0) ++ label_words (id_label name.ls_type)

abbrev pub origination_words : Origination → List Word
origination_words origination = said label.AdvertisingRouter (address_text origination.adv.0) ++ said label.Sequence (printed_hex 8 origination.sequence)

abbrev pub checksum_and_length_words : ChecksumAndLength → List Word
checksum_and_length_words last = said label.Checksum (48 ∷ 120 ∷ printed_hex 4 last.checksum) ++ said label.Length (decimal last.size)

abbrev pub header_words : Beside → Header → List Word
header_words beside header =
    age_and_options_words beside header.age_and_options ++ flags_words header.flags ++ name_words header.name ++ origination_words header.origination
    ++ checksum_and_length_words header.checksum_and_length

-- each field is within its width
pub record HeaderFits (header : Header) : Type 0 where
  pub age : header.age_and_options.age < 2 ^ 16
  pub options : header.age_and_options.options < 2 ^ 8
  pub flags : IfSome header.flags (λ flags. flags < 2 ^ 8)
  pub id : header.name.id.0 < 2 ^ 32
  pub adv : header.origination.adv.0 < 2 ^ 32
  pub sequence : header.origination.sequence < 2 ^ 32
  pub checksum : header.checksum_and_length.checksum < 2 ^ 16
  pub size : header.checksum_and_length.size < 2 ^ 16
