-- How an FRR router prints what follows the header of an LSA (RFC 2328, A.4.2 to A.4.5), as words.
use Rattle.std.specs.Prelude.{◌≡◌, ◌⊎◌, ℕ, ◌+◌, ◌*◌, ◌^◌, ◌<◌, ◌≤◌, Bool, All, List, ◌∷◌, ◌++◌, length, Some, if◌then◌else◌, decimal}
use Rattle.std.specs.Int.{w16, w32, to_be_bytes}
use Rattle.std.specs.List.{flat_map}
use Rattle.lsa_codec.specs.Prefix.{mask_of_len}
use Rattle.lsa_codec.specs.Spelling.{address_text}
use Rattle.frr_text.specs.declared.external.External.{External}
use Rattle.frr_text.specs.declared.header.Header.{Header}
use Rattle.frr_text.specs.declared.label.Label.{Label}
use Rattle.frr_text.specs.declared.label.Label.TheVariants as label
use Rattle.frr_text.specs.declared.ls_type.LsType.TheVariants as types
use Rattle.frr_text.specs.declared.router.Link.{Link}
use Rattle.frr_text.specs.declared.summary.Summary.{Summary}
use Rattle.frr_text.specs.Words.{Word}
use Rattle.frr_text.specs.Bodies.{link_label, link_id_label, data_label, link_bytes, summary_bytes, external_bytes}
use Rattle.frr_text.specs.Printing.{printed_mask, label_words, said, Beside, header_words}

-- ---- router-LSAs (A.4.2)

abbrev pub link_words : Link → List Word
link_words link =
    label_words (link_label link.link_type) ++ said (link_id_label link.link_type) (address_text link.id)
    ++ said (data_label link.link_type) (address_text link.link_data) ++ said label.LinkMetric (decimal link.metric)

-- the number of links, and each
abbrev pub router_words : List Link → List Word
router_words links = said label.LinkCount (decimal (length links)) ++ flat_map link_words links

-- ---- network-LSAs (A.4.3)

abbrev pub attached_words : ℕ → List Word
attached_words router = said label.Attached (address_text router)

-- the length of the mask, and each attached router
abbrev pub network_words : ℕ → List ℕ → List Word
network_words len routers = said label.Mask (printed_mask len) ++ flat_map attached_words routers

-- ---- summary-LSAs (A.4.4)

abbrev pub summary_words : Summary → List Word
summary_words summary = said label.Mask (printed_mask summary.len) ++ said label.Metric (decimal summary.metric)

-- ---- AS-external-LSAs (A.4.5)

abbrev pub metric_type_label : Bool → Label
metric_type_label is_type2 = if is_type2 then label.MetricType2 else label.MetricType1

abbrev pub external_words : External → List Word
external_words external =
    said label.Mask (printed_mask external.len) ++ label_words (metric_type_label external.is_type2)
    ++ said label.Metric (decimal external.metric) ++ said label.Forward (address_text external.forward)
    ++ said label.Tag (decimal external.tag)

-- ---- of any type

-- the byte of the bits V, E and B and the links; the length of the mask and the attached routers; a summary of either
-- type
pub data Body : Type 0 where
  of_router : ℕ → List Link → Body
  of_network : ℕ → List ℕ → Body
  of_summary : Summary → Body
  of_external : External → Body

abbrev pub body_words : Body → List Word
body_words (of_router flags links) = router_words links
body_words (of_network len routers) = network_words len routers
body_words (of_summary summary) = summary_words summary
body_words (of_external external) = external_words external

-- an LSA with this header
abbrev pub lsa_words : Beside → Header → Body → List Word
lsa_words beside header body = header_words beside header ++ body_words body

abbrev pub body_bytes : Body → List ℕ
body_bytes (of_router flags links) = flags ∷ 0 ∷ to_be_bytes w16 (length links) ++ flat_map link_bytes links
body_bytes (of_network len routers) = to_be_bytes w32 (mask_of_len len) ++ flat_map (to_be_bytes w32) routers
body_bytes (of_summary summary) = summary_bytes summary
body_bytes (of_external external) = external_bytes external

-- ---- it is of the header's type, and each number is within its width

pub record LinkFits (link : Link) : Type 0 where
  pub id : link.id < 2 ^ 32
  pub link_data : link.link_data < 2 ^ 32
  pub metric : link.metric < 2 ^ 16

-- the header has these bits V, E and B
pub record RouterFits (header : Header) (flags : ℕ) (links : List Link) : Type 0 where
  pub ls_type : header.name.ls_type ≡ types.Router
  pub bits : header.flags ≡ Some flags
  pub count : length links < 2 ^ 16
  pub each_link : All LinkFits links

-- the header's length is that of the header, the mask and the attached routers
pub record NetworkFits (header : Header) (len : ℕ) (routers : List ℕ) : Type 0 where
  pub ls_type : header.name.ls_type ≡ types.Network
  pub size : header.checksum_and_length.size ≡ 24 + 4 * length routers
  pub mask : len ≤ 32
  pub each_router : All (λ router. router < 2 ^ 32) routers

pub record SummaryFits (header : Header) (summary : Summary) : Type 0 where
  pub ls_type : (header.name.ls_type ≡ types.Summary) ⊎ (header.name.ls_type ≡ types.AsbrSummary)
  pub len : summary.len ≤ 32
  pub metric : summary.metric < 2 ^ 24

pub record ExternalFits (header : Header) (external : External) : Type 0 where
  pub ls_type : header.name.ls_type ≡ types.External
  pub len : external.len ≤ 32
  pub metric : external.metric < 2 ^ 24
  pub forward : external.forward < 2 ^ 32
  pub tag : external.tag < 2 ^ 32

abbrev pub BodyFits : Header → Body → Type 0
BodyFits header (of_router flags links) = RouterFits header flags links
BodyFits header (of_network len routers) = NetworkFits header len routers
BodyFits header (of_summary summary) = SummaryFits header summary
BodyFits header (of_external external) = ExternalFits header external
