-- The bytes that the printed fields of a header make (RFC 2328, A.4.1).
use Rattle.std.specs.Prelude.{ℕ, List, ◌∷◌, ◌++◌}
use Rattle.std.specs.Int.{w16, w32, to_be_bytes}
use Rattle.lsa_codec.specs.LsTypes.{router_lsa, network_lsa, summary_lsa, asbr_summary_lsa, external_lsa}
use Rattle.lsa_codec.specs.declared.key.Key.{Key}
use Rattle.frr_text.specs.declared.header.AgeAndOptions.{AgeAndOptions}
use Rattle.frr_text.specs.declared.header.ChecksumAndLength.{ChecksumAndLength}
use Rattle.frr_text.specs.declared.header.Header.{Header}
use Rattle.frr_text.specs.declared.ls_type.LsType.{LsType}
use Rattle.frr_text.specs.declared.ls_type.LsType.TheVariants as types

abbrev pub type_code : LsType → ℕ
type_code types.Router = router_lsa
type_code types.Network = network_lsa
type_code types.Summary = summary_lsa
type_code types.AsbrSummary = asbr_summary_lsa
type_code types.External = external_lsa

-- the key of an LSA with this header
abbrev pub key_of : Header → Key
key_of header = record { kind = type_code header.name.ls_type; id = header.name.id; adv = header.origination.adv }

-- the header of the LSA with this key, with the checksum and the length that were printed
abbrev pub bytes_with_key : AgeAndOptions → Key → ℕ → ChecksumAndLength → List ℕ
bytes_with_key age_and_options key sequence checksum_and_length =
    to_be_bytes w16 age_and_options.age ++ age_and_options.options ∷ key.kind ∷ to_be_bytes w32 key.id.0 ++ to_be_bytes w32 key.adv.0
    ++ to_be_bytes w32 sequence ++ to_be_bytes w16 checksum_and_length.checksum ++ to_be_bytes w16 checksum_and_length.size

abbrev pub header_bytes : Header → List ℕ
header_bytes header = bytes_with_key header.age_and_options (key_of header) header.origination.sequence header.checksum_and_length
