-- What follows an LSA's header (RFC 2328, A.4.2 to A.4.5) in the words that FRR prints of it, and its bytes.
use Rattle.std.specs.Prelude.{ℕ, ◌-◌, ◌/◌, option_map, Bool, true, false, if◌then◌else◌, List, [], ◌∷◌, ◌++◌, drop, Option, Some, None}
use Rattle.std.specs.Int.{w16, w32, to_be_bytes}
use Rattle.std.specs.List.{flat_map}
use Rattle.lsa_codec.specs.Prefix.{mask_of_len}
use Rattle.lsa_codec.specs.Views.{ls_infinity}
use Rattle.frr_text.specs.declared.external.External.{External}
use Rattle.frr_text.specs.declared.header.Header.{Header}
use Rattle.frr_text.specs.declared.label.Label.{Label}
use Rattle.frr_text.specs.declared.label.Label.TheVariants as label
use Rattle.frr_text.specs.declared.ls_type.LsType.{LsType}
use Rattle.frr_text.specs.declared.ls_type.LsType.TheVariants as types
use Rattle.frr_text.specs.declared.router.Link.{Link}
use Rattle.frr_text.specs.declared.router.LinkType.{LinkType}
use Rattle.frr_text.specs.declared.router.LinkType.TheVariants as links
use Rattle.frr_text.specs.declared.summary.Summary.{Summary}
use Rattle.frr_text.specs.Words.{Word}
use Rattle.frr_text.specs.Rules.{◌>>=◌, Rule, first_of_all, times}
use Rattle.text_words.specs.Numbers.{number_up_to}
use Rattle.text_words.specs.Addresses.{address_of}
use Rattle.frr_text.specs.Numbers.{mask_length}
use Rattle.frr_text.specs.Labels.{after_label, value_after}

-- ---- router-LSAs (A.4.2)

abbrev pub link_types : List LinkType
link_types = links.PointToPoint ∷ links.Transit ∷ links.Stub ∷ links.Virtual ∷ []

abbrev pub link_code : LinkType → ℕ
link_code links.PointToPoint = 1
link_code links.Transit = 2
link_code links.Stub = 3
link_code links.Virtual = 4

-- what is printed as the link's type
abbrev pub link_label : LinkType → Label
link_label links.PointToPoint = label.ToRouter
link_label links.Transit = label.ToTransit
link_label links.Stub = label.ToStub
link_label links.Virtual = label.ToVirtual

-- what is printed before the Link ID
abbrev pub link_id_label : LinkType → Label
link_id_label links.PointToPoint = label.NeighborId
link_id_label links.Transit = label.DesignatedId
link_id_label links.Stub = label.NetId
link_id_label links.Virtual = label.NeighborId

-- what is printed before the Link Data
abbrev pub data_label : LinkType → Label
data_label links.PointToPoint = label.InterfaceData
data_label links.Transit = label.InterfaceData
data_label links.Stub = label.MaskData
data_label links.Virtual = label.InterfaceData

-- a link of this type
unfoldable pub link_as : LinkType → Rule Link
link_as link_type text = do
  after_type ← after_label (link_label link_type) text
  id ← value_after address_of (link_id_label link_type) after_type
  link_data ← value_after address_of (data_label link_type) id.1
  metric ← value_after (number_up_to 0xffff) label.LinkMetric link_data.1
  Some (record { link_type = link_type; id = id.0; link_data = link_data.0; metric = metric.0 }, metric.1)

abbrev pub link_in : Rule Link
link_in text = first_of_all link_as link_types text

-- Link ID, Link Data, type, no metrics for other TOS, and the metric
abbrev pub link_bytes : Link → List ℕ
link_bytes link =
    to_be_bytes w32 link.id ++ to_be_bytes w32 link.link_data ++ link_code link.link_type ∷ 0 ∷ to_be_bytes w16 link.metric

-- the bits V, E and B, a byte 0, the number of links, and the links
unfoldable pub router_in : Option ℕ → List Word → Option (List ℕ)
router_in flags text = do
  bits ← flags
  count ← value_after (number_up_to 0xffff) label.LinkCount text
  option_map (λ found. (bits ∷ 0 ∷ to_be_bytes w16 count.0) ++ flat_map link_bytes found) (times link_in count.0 count.1)

-- ---- network-LSAs (A.4.3)

abbrev pub attached_in : Rule ℕ
attached_in text = value_after address_of label.Attached text

-- the mask, and the attached routers that an LSA of this length has: 4 bytes for each, after the header and the mask
unfoldable pub network_in : ℕ → List Word → Option (List ℕ)
network_in size text = do
  len ← value_after mask_length label.Mask text
  option_map (λ routers. to_be_bytes w32 (mask_of_len len.0) ++ flat_map (to_be_bytes w32) routers)
      (times attached_in ((size - 24) / 4) len.1)

-- ---- summary-LSAs (A.4.4)

-- the length of the mask, and the metric for TOS 0
unfoldable pub summary_in : List Word → Option Summary
summary_in text = do
  len ← value_after mask_length label.Mask text
  metric ← value_after (number_up_to ls_infinity) label.Metric len.1
  Some (record { len = len.0; metric = metric.0 })

-- the mask, and the metric of 24 bits after a byte 0; there are no metrics for other TOS
abbrev pub summary_bytes : Summary → List ℕ
summary_bytes summary = to_be_bytes w32 (mask_of_len summary.len) ++ to_be_bytes w32 summary.metric

-- ---- AS-external-LSAs (A.4.5)

abbrev pub type1_or : Option (List Word) → Option (Bool × List Word)
type1_or None = None
type1_or (Some rest) = Some (false, rest)

abbrev pub type2_or : List Word → Option (List Word) → Option (Bool × List Word)
type2_or text None = type1_or (after_label label.MetricType1 text)
type2_or text (Some rest) = Some (true, rest)

-- whether the metric is of type 2
abbrev pub metric_type_in : Rule Bool
metric_type_in text = type2_or text (after_label label.MetricType2 text)

-- the length of the mask, the type of the metric, the metric for TOS 0, the forwarding address and the external route tag
unfoldable pub external_in : List Word → Option External
external_in text = do
  len ← value_after mask_length label.Mask text
  is_type2 ← metric_type_in len.1
  metric ← value_after (number_up_to ls_infinity) label.Metric is_type2.1
  forward ← value_after address_of label.Forward metric.1
  tag ← value_after (number_up_to 0xffffffff) label.Tag forward.1
  Some (record { len = len.0; is_type2 = is_type2.0; metric = metric.0; forward = forward.0; tag = tag.0 })

-- the mask, the bit E before seven bits 0, the metric of 24 bits, the forwarding address and the tag; there are no
-- metrics for other TOS
abbrev pub external_bytes : External → List ℕ
external_bytes external =
    to_be_bytes w32 (mask_of_len external.len) ++ (if external.is_type2 then 128 else 0) ∷ drop 1 (to_be_bytes w32 external.metric)
    ++ to_be_bytes w32 external.forward ++ to_be_bytes w32 external.tag

-- ---- of any type

abbrev pub body_as : LsType → Option ℕ → ℕ → List Word → Option (List ℕ)
body_as types.Router flags size text = router_in flags text
body_as types.Network flags size text = network_in size text
body_as types.Summary flags size text = option_map summary_bytes (summary_in text)
body_as types.AsbrSummary flags size text = option_map summary_bytes (summary_in text)
body_as types.External flags size text = option_map external_bytes (external_in text)

-- the bytes after this header, whose words stand here
abbrev pub body_in : Header → List Word → Option (List ℕ)
body_in header text = body_as header.name.ls_type header.flags header.checksum_and_length.size text
