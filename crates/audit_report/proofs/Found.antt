-- The findings of kinds, one kind after another.
use Rattle.std.proofs.Common.{[], ◌∷◌, filter, map, refl, ap, ◌∙◌}
use Rattle.std.proofs.lemmas.List.{map-append}
use Rattle.std.proofs.lemmas.List.Elements.{filter-append}
use Rattle.lsdb.specs.Lists.{Lists}
use Rattle.area_routes.proofs.AddsLemmas.{Adds}
use Rattle.audit_report.specs.Findings.{finding, found_among, is_found}

pub found_adds : (loaded now : Lists) → Adds (found_among loaded now) (λ kind. filter is_found (finding loaded now kind ∷ []))
found_adds loaded now = record {
  none = refl;
  push = λ kinds kind.
      ap (filter is_found) (map-append (finding loaded now) kinds (kind ∷ []))
      ∙ filter-append is_found (map (finding loaded now) kinds) (finding loaded now kind ∷ []);
}
