-- The findings of an audit: for each kind its places.
use Rattle.std.specs.Prelude.{Bool, true, false, List, [], ◌∷◌, filter, map}
use Rattle.lsdb.specs.Lists.{Lists}
use Rattle.study_words.specs.declared.audit_kind.AuditKind.{AuditKind}
use Rattle.study_words.specs.declared.audit_kind.AuditKind.TheVariants as kind
use Rattle.study_words.specs.AuditKinds.{audit_kinds}
use Rattle.audit_places.specs.Places.{PlaceValue}
use Rattle.audit_lsas.specs.Boundary.{external_without_bit_e_places}
use Rattle.audit_lsas.specs.Kinds.{area_kind_places, drained_places, max_age_places, nssa_places, opaque_places, virtual_link_places}
use Rattle.audit_lsas.specs.Orphans.{orphan_lsa_places}
use Rattle.audit_lsas.specs.Undescribed.{undescribed_router_places}
use Rattle.audit_links.specs.Addresses.{duplicate_address_places}
use Rattle.audit_links.specs.LinkFindings.{one_way_link_places, point_to_multipoint_places, unequal_cost_places}
use Rattle.audit_topology.specs.Backbone.{abr_without_backbone_places}
use Rattle.audit_topology.specs.Networks.{several_networks_places}
use Rattle.audit_topology.specs.Parts.{split_area_places}
use Rattle.audit_topology.specs.RouterTests.{abr_without_bit_b_places, area_missing_places, unreached_router_places}
use Rattle.audit_routes.specs.Compatibility.{rfc1583_places}
use Rattle.audit_routes.specs.ForwardUnreached.{forward_unreached_places}
use Rattle.audit_routes.specs.Missing.{summary_missing_places}
use Rattle.audit_routes.specs.NotDue.{summary_not_due_places, summary_raised_places}
use Rattle.audit_routes.specs.OwnExternals.{own_external_places}
use Rattle.audit_report.specs.Meanings.{is_wrong}

module _ (loaded now : Lists) where
  -- the places of the findings of a kind, in a database that was loaded as another one
  unfoldable pub places_of : AuditKind → List PlaceValue
  places_of kind.Nssa = nssa_places now
  places_of kind.AreaKind = area_kind_places now
  places_of kind.VirtualLink = virtual_link_places now
  places_of kind.AreaMissing = area_missing_places now
  places_of kind.AbrWithoutBackbone = abr_without_backbone_places now
  places_of kind.AbrWithoutBitB = abr_without_bit_b_places now
  places_of kind.SplitArea = split_area_places now
  places_of kind.SummaryRaised = summary_raised_places now
  places_of kind.SummaryNotDue = summary_not_due_places now
  places_of kind.SummaryMissing = summary_missing_places now
  places_of kind.Rfc1583 = rfc1583_places now
  places_of kind.ExternalWithoutBitE = external_without_bit_e_places now
  places_of kind.UndescribedRouter = undescribed_router_places loaded now
  places_of kind.SeveralNetworks = several_networks_places now
  places_of kind.DuplicateAddress = duplicate_address_places now
  places_of kind.OwnExternal = own_external_places now
  places_of kind.ForwardUnreached = forward_unreached_places now
  places_of kind.OneWayLink = one_way_link_places now
  places_of kind.UnequalCost = unequal_cost_places now
  places_of kind.PointToMultipoint = point_to_multipoint_places now
  places_of kind.Drained = drained_places now
  places_of kind.UnreachedRouter = unreached_router_places now
  places_of kind.OrphanLsa = orphan_lsa_places now
  places_of kind.Opaque = opaque_places now
  places_of kind.MaxAge = max_age_places now

-- a kind, and the places of its findings
pub record FindingValue : Type 0 where
  pub kind : AuditKind
  pub places : List PlaceValue

abbrev pub finding : Lists → Lists → AuditKind → FindingValue
finding loaded now kind = record { kind = kind; places = places_of loaded now kind }

-- there are some
abbrev pub are_some : List PlaceValue → Bool
are_some [] = false
are_some (place ∷ places) = true

abbrev pub is_found : FindingValue → Bool
is_found f = are_some f.places

-- those of some kinds that have a place, in their order
abbrev pub found_among : Lists → Lists → List AuditKind → List FindingValue
found_among loaded now kinds = filter is_found (map (finding loaded now) kinds)

-- the kinds that have a place, in order
abbrev pub audit : Lists → Lists → List FindingValue
audit loaded now = found_among loaded now audit_kinds

-- those that can make a table wrong
abbrev pub wrong : List FindingValue → List FindingValue
wrong findings = filter (λ f. is_wrong f.kind) findings
