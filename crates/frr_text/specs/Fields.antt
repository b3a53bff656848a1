-- The fields of an LSA's header (RFC 2328, A.4.1) in the words that FRR prints of it.
use Rattle.std.specs.Prelude.{ℕ, Bool, ◌||◌, if◌then◌else◌, List, [], ◌∷◌, Option, Some, None}
use Rattle.std.specs.Option.{is_some}
use Rattle.findings.specs.declared.feature.Feature.{Feature}
use Rattle.findings.specs.declared.feature.Feature.TheVariants as features
use Rattle.lsa_codec.specs.Accepted.{longest_lsa}
use Rattle.frr_text.specs.declared.header.AgeAndOptions.{AgeAndOptions}
use Rattle.frr_text.specs.declared.header.Header.{Header}
use Rattle.frr_text.specs.declared.header.Origination.{Origination}
use Rattle.frr_text.specs.declared.header.Name.{Name}
use Rattle.frr_text.specs.declared.header.ChecksumAndLength.{ChecksumAndLength}
use Rattle.frr_text.specs.declared.label.Label.{Label}
use Rattle.frr_text.specs.declared.label.Label.TheVariants as label
use Rattle.frr_text.specs.declared.ls_type.LsType.{LsType}
use Rattle.frr_text.specs.declared.ls_type.LsType.TheVariants as types
use Rattle.frr_text.specs.Words.{Word}
use Rattle.frr_text.specs.Rules.{◌>>=◌, Rule, first_of_all}
use Rattle.text_words.specs.Numbers.{number_up_to, hex_up_to}
use Rattle.text_words.specs.Addresses.{address_of}
use Rattle.frr_text.specs.Numbers.{marked_up_to}
use Rattle.frr_text.specs.Labels.{after_label, word_after, value_after}

-- LS age and options. After the number of the options stand a colon, their letters, and the LS flags, which are the
-- router's own and no part of the LSA
unfoldable pub age_and_options_in : Rule AgeAndOptions
age_and_options_in text = do
  age ← value_after (number_up_to 0xffff) label.Age text
  options ← value_after (marked_up_to 0xff) label.Options age.1
  letters ← word_after label.Letters options.1
  flags ← word_after label.LsFlags letters.1
  Some (record { age = age.0; options = options.0 }, flags.1)

abbrev pub rest_or : List Word → Option (List Word) → List Word
rest_or text None = text
rest_or text (Some rest) = rest

-- the words after a label, where it stands, else all
unfoldable pub past : Label → List Word → List Word
past label text = rest_or text (after_label label text)

-- the words after the names of the bits V, E and B, each of which is printed where the bit is 1
unfoldable pub past_names : List Word → List Word
past_names text = past label.ShortcutBit (past label.VirtualBit (past label.ExternalBit (past label.BoundaryBit (past label.Letters text))))

abbrev pub flags_or : List Word → Option (ℕ × List Word) → Option ℕ × List Word
flags_or text None = (None, text)
flags_or text (Some flags) = (Some flags.0, past_names flags.1)

-- the byte of the bits V, E and B, which is printed only for router-LSAs
unfoldable pub flags_in : List Word → Option ℕ × List Word
flags_in text = flags_or text (value_after (marked_up_to 0xff) label.Flags text)

abbrev pub ls_types : List LsType
ls_types = types.Router ∷ types.Network ∷ types.Summary ∷ types.AsbrSummary ∷ types.External ∷ []

-- what is printed as the LS type
abbrev pub type_label : LsType → Label
type_label types.Router = label.RouterLsa
type_label types.Network = label.NetworkLsa
type_label types.Summary = label.SummaryLsa
type_label types.AsbrSummary = label.SummaryLsa
type_label types.External = label.ExternalLsa

-- what is printed after the Link State ID; only this distinguishes the types 3 and 4
abbrev pub id_label : LsType → Label
id_label types.Router = label.Nothing
id_label types.Network = label.DesignatedRouter
id_label types.Summary = label.SummaryNetwork
id_label types.AsbrSummary = label.BoundaryRouter
id_label types.External = label.ExternalNetwork

-- LS type, of this kind, and Link State ID
unfoldable pub name_as : LsType → Rule Name
name_as ls_type text = do
  after_type ← after_label (type_label ls_type) text
  id ← value_after address_of label.Id after_type
  rest ← after_label (id_label ls_type) id.1
  Some (record { ls_type = ls_type; id = record { 0 = id.0 } }, rest)

-- LS type and Link State ID
abbrev pub name_in : Rule Name
name_in text = first_of_all name_as ls_types text

-- Advertising Router and LS sequence number
unfoldable pub origination_in : Rule Origination
origination_in text = do
  adv ← value_after address_of label.AdvertisingRouter text
  sequence ← value_after (hex_up_to 0xffffffff) label.Sequence adv.1
  Some (record { adv = record { 0 = adv.0 }; sequence = sequence.0 }, sequence.1)

-- LS checksum and length
unfoldable pub checksum_and_length_in : Rule ChecksumAndLength
checksum_and_length_in text = do
  checksum ← value_after (marked_up_to 0xffff) label.Checksum text
  size ← value_after (number_up_to longest_lsa) label.Length checksum.1
  Some (record { checksum = checksum.0; size = size.0 }, size.1)

-- the words after the LS flags: beside those of an LSA that the router translated (RFC 3101, 3.2) it says so
abbrev pub past_translated : List Word → List Word
past_translated text = past label.Translated text

-- the header of the LSA whose words stand here
unfoldable pub header_in : Rule Header
header_in text = do
  first ← age_and_options_in text
  name ← name_in (flags_in (past_translated first.1)).1
  origination ← origination_in name.1
  last ← checksum_and_length_in origination.1
  Some (
    record {
      age_and_options = first.0;
      flags = (flags_in (past_translated first.1)).0;
      name = name.0;
      origination = origination.0;
      checksum_and_length = last.0;
    },
    last.1,
  )

-- ---- LSAs that are not read

abbrev pub is_opaque : List Word → Bool
is_opaque text =
    is_some (after_label label.LinkOpaqueLsa text) || is_some (after_label label.AreaOpaqueLsa text)
    || is_some (after_label label.AsOpaqueLsa text)

-- the types 7 and 9 to 11, by what is printed as the LS type
abbrev pub feature_named : List Word → Option Feature
feature_named text =
    if is_some (after_label label.NssaLsa text) then Some features.Nssa
    else if is_opaque text then Some features.Opaque
    else None

-- what the LSA shows whose words stand here, where the planner leaves it out by its LS type
unfoldable pub feature_in : List Word → Option Feature
feature_in text = do
  first ← age_and_options_in text
  feature_named (past_translated first.1)
