-- What matters of an LSA that came or went (RFC 2328, A.4.2 to A.4.5).
use Rattle.std.specs.Prelude.{ℕ, ◌==◌, if◌then◌else◌, Bool, true, false, List, ◌++◌, length, codes, decimal}
use Rattle.lsa_codec.specs.LsTypes.{router_lsa, network_lsa, summary_lsa, asbr_summary_lsa, external_lsa}
use Rattle.lsa_codec.specs.Fields.{kind_of}
use Rattle.lsa_codec.specs.Links.{link_count}
use Rattle.lsa_codec.specs.Spelling.{address_text}
use Rattle.lsa_codec.specs.Views.{attached_of, forward_of, is_type2_of, metric_of, tag_of}
use Rattle.lsa_changes.specs.declared.detail.Detail.{Detail}
use Rattle.lsa_changes.specs.declared.detail.Detail.TheVariants as detail
use Rattle.lsa_changes.specs.declared.detail.External.{External}

-- the fields of an AS-external-LSA but for its mask
abbrev pub external_of : List ℕ → External
external_of lsa = record { is_type2 = is_type2_of lsa; metric = metric_of lsa; forward = record { 0 = forward_of lsa }; tag = tag_of lsa }

-- the number of links of a router-LSA, and of routers that a network-LSA lists; the metric of a summary-LSA, the fields of an
-- AS-external-LSA, and the length of any other LSA
abbrev pub detail_of : List ℕ → Detail
detail_of lsa =
    if kind_of lsa == router_lsa then detail.Links (link_count lsa) else
    if kind_of lsa == network_lsa then detail.Members (length (attached_of lsa)) else
    if kind_of lsa == summary_lsa then detail.Metric (metric_of lsa) else
    if kind_of lsa == asbr_summary_lsa then detail.Metric (metric_of lsa) else
    if kind_of lsa == external_lsa then detail.External (external_of lsa) else detail.Bytes (length lsa)

-- ---- texts

abbrev pub type_text : Bool → List ℕ
type_text false = codes "type 1"
type_text true = codes "type 2"

abbrev pub external_text : External → List ℕ
external_text e =
    type_text e.is_type2 ++ codes " metric " ++ decimal e.metric ++ codes " forward " ++ address_text e.forward.0 ++ codes " tag " ++ decimal e.tag

abbrev pub detail_text : Detail → List ℕ
detail_text (detail.Links count) = decimal count ++ codes " links"
detail_text (detail.Members count) = decimal count ++ codes " members"
detail_text (detail.Metric metric) = codes "metric " ++ decimal metric
detail_text (detail.External external) = external_text external
detail_text (detail.Bytes count) = decimal count ++ codes " bytes"
