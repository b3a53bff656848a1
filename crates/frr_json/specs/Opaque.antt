-- Opaque LSAs (RFC 5250, A.2) in the object that FRR prints of one.
use Rattle.std.specs.Prelude.{ℕ, ◌==◌, ◌*◌, ◌-◌, codes, List, ◌++◌, length, if◌then◌else◌, Option, Some, None, Result, Ok, Err}
use Rattle.hex.specs.Hex.{decode_of}
use Rattle.json.specs.Json.{Json}
use Rattle.findings.specs.declared.feature.Feature.TheVariants as features
use Rattle.findings.specs.declared.part.Part.{Part}
use Rattle.findings.specs.declared.part.Part.TheVariants as contents
use Rattle.lsa_codec.specs.declared.address.AreaId.{AreaId}
use Rattle.lsa_codec.specs.declared.address.RouterId.{RouterId}
use Rattle.lsa_codec.specs.declared.key.Key.{Key}
use Rattle.lsa_codec.specs.Accepted.{longest_lsa}
use Rattle.lsa_codec.specs.Decoding.{decoded}
use Rattle.lsa_codec.specs.Fields.{header_length}
use Rattle.frr_text.specs.Making.{bytes_with_key}
use Rattle.frr_text.specs.ParsedParts.{parsed_decoded}
use Rattle.frr_text.specs.Rules.{◌>>=◌}
use Rattle.frr_json.specs.Header.{age_and_options_in, origination_in, checksum_and_length_in}
use Rattle.frr_json.specs.Members.{text_at, number_at, address_at}

abbrev pub key_with : ℕ → ℕ → RouterId → Key
key_with kind id adv = record { kind = kind; id = record { 0 = id }; adv = adv }

-- the key of an LSA of this type, which the database's name says, and the bytes of its header
unfoldable pub header_in : ℕ → Json → Option (Key × List ℕ)
header_in kind json = do
  age_and_options ← age_and_options_in json
  id ← address_at (codes "linkStateId") json
  origination ← origination_in json
  checksum_and_length ← checksum_and_length_in json
  Some (key_with kind id origination.adv, bytes_with_key age_and_options (key_with kind id origination.adv) origination.sequence checksum_and_length)

abbrev pub ok : {A E : Type 0} → Result A E → Option A
ok (Ok x) = Some x
ok (Err e) = None

-- two hexadecimal digits for each byte
abbrev pub pairs_in : List ℕ → Option (List ℕ)
pairs_in text = ok (decode_of text)

-- the data of an LSA of this length
abbrev pub data_of_size : ℕ → List ℕ → Option (List ℕ)
data_of_size size text = if length text == 2 * (size - header_length) then pairs_in text else None

-- the opaque data, where they are what the length leaves after the header
unfoldable pub data_of : List ℕ → Json → Option (List ℕ)
data_of text json = do
  size ← number_at longest_lsa (codes "length") json
  data_of_size size text

unfoldable pub data_in : Json → Option (List ℕ)
data_in json = do
  text ← text_at (codes "opaqueData") json
  data_of text json

module _ {A : Type 0} where
  abbrev pub parsed_with : Option AreaId → Key → List ℕ → Option (List ℕ) → Part A
  parsed_with area key header None = contents.NotRead features.Opaque
  parsed_with area key header (Some information) = parsed_decoded area key (decoded (header ++ information))

  abbrev pub parsed_from : Option AreaId → Option (Key × List ℕ) → Option (List ℕ) → Part A
  parsed_from area None information = contents.NotRead features.Opaque
  parsed_from area (Some header) information = parsed_with area header.0 header.1 information

  -- the LSA of this type in an object, or why it cannot be used; where a field or data of its length are missing, it is counted alone
  abbrev pub parsed_opaque : ℕ → Option AreaId → Json → Part A
  parsed_opaque kind area json = parsed_from area (header_in kind json) (data_in json)
