-- Areas of a database of which no file reports the kind (RFC 2328, 3.6).
use Rattle.std.specs.Prelude.{◌&&◌, filter, not, List, map}
use Rattle.lsa_codec.specs.declared.address.AreaId.{AreaId}
use Rattle.lsa_codec.specs.Areas.{is_backbone}
use Rattle.lsa_codec.specs.Order.{area_cmp}
use Rattle.lsdb.specs.Lists.{Lists, areas_of}
use Rattle.lsa_instances.specs.declared.area.AreaReport.{AreaReport}
use Rattle.capture_report.specs.Sets.{has}

abbrev pub ids_of : List AreaReport → List AreaId
ids_of areas = map (λ area. area.id) areas

-- the areas of a database, in rising order, each once
abbrev pub areas_in : Lists → List AreaId
areas_in db = map (λ area. record { 0 = area.id }) (areas_of db)

-- those, except the backbone, of which no kind is reported
abbrev pub without_kind : List AreaReport → List AreaId → List AreaId
without_kind kinds areas = filter (λ id. not (is_backbone id) && not (has area_cmp id (ids_of kinds))) areas
