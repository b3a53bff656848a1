-- Areas of which files report two kinds (RFC 2328, 3.6).
use Rattle.std.specs.Prelude.{◌≡◌, ◌&&◌, Bool, true, false, if◌then◌else◌, List, Option, None, Some}
use Rattle.std.specs.List.{filter_map}
use Rattle.std.specs.List.Sorted.{IsStrictlySortedBy}
use Rattle.lsa_codec.specs.declared.address.AreaId.{AreaId}
use Rattle.lsa_codec.specs.Order.{area_cmp}
use Rattle.lsa_instances.specs.Areas.{is_stub_kind}
use Rattle.capture_report.specs.Sets.{has}
use Rattle.lsa_instances.specs.declared.area.AreaReport.{AreaReport}

-- the area, where it is reported as a stub area, or as another one
abbrev pub reported_id : Bool → AreaReport → Option AreaId
reported_id true area = if is_stub_kind area.kind then Some area.id else None
reported_id false area = if is_stub_kind area.kind then None else Some area.id

-- the areas that are reported both as stub areas and as others, each once, in order
pub record AreContradictions (areas : List AreaReport) (both : List AreaId) : Type 0 where
  pub which : (id : AreaId) → has area_cmp id both ≡ (has area_cmp id (filter_map (reported_id false) areas) && has area_cmp id (filter_map (reported_id true) areas))
  pub order : IsStrictlySortedBy area_cmp both
