-- The fields of an LSA's header (RFC 2328, A.4.1) in the object that FRR prints of it.
use Rattle.std.specs.Prelude.{ℕ, codes, Option, Some}
use Rattle.json.specs.Json.{Json}
use Rattle.lsa_codec.specs.Accepted.{longest_lsa}
use Rattle.frr_text.specs.declared.header.AgeAndOptions.{AgeAndOptions}
use Rattle.frr_text.specs.declared.header.Header.{Header}
use Rattle.frr_text.specs.declared.header.Origination.{Origination}
use Rattle.frr_text.specs.declared.header.ChecksumAndLength.{ChecksumAndLength}
use Rattle.frr_text.specs.declared.ls_type.LsType.{LsType}
use Rattle.frr_text.specs.Rules.{◌>>=◌}
use Rattle.frr_json.specs.Members.{text_at, number_at, hex_at, address_at}
use Rattle.frr_json.specs.Options.{options_of}

-- LS age and options
unfoldable pub age_and_options_in : Json → Option AgeAndOptions
age_and_options_in json = do
  age ← number_at 0xffff (codes "lsaAge") json
  letters ← text_at (codes "options") json
  options ← options_of letters
  Some (record { age = age; options = options })

-- the byte of the bits V, E and B
unfoldable pub flags_in : Json → Option ℕ
flags_in json = do
  flags ← number_at 0xff (codes "flags") json
  Some flags

-- Advertising Router and LS sequence number
unfoldable pub origination_in : Json → Option Origination
origination_in json = do
  adv ← address_at (codes "advertisingRouter") json
  sequence ← hex_at 0xffffffff (codes "lsaSeqNumber") json
  Some (record { adv = record { 0 = adv }; sequence = sequence })

-- LS checksum and length
unfoldable pub checksum_and_length_in : Json → Option ChecksumAndLength
checksum_and_length_in json = do
  checksum ← hex_at 0xffff (codes "checksum") json
  size ← number_at longest_lsa (codes "length") json
  Some (record { checksum = checksum; size = size })

-- the header of an LSA of this type, which the database's name says
unfoldable pub header_in : LsType → Json → Option Header
header_in ls_type json = do
  age_and_options ← age_and_options_in json
  id ← address_at (codes "linkStateId") json
  origination ← origination_in json
  checksum_and_length ← checksum_and_length_in json
  Some (record {
    age_and_options = age_and_options;
    flags = flags_in json;
    name = record { ls_type = ls_type; id = record { 0 = id } };
    origination = origination;
    checksum_and_length = checksum_and_length;
  })
