-- Where routing tables differ, one prefix after another.
use Rattle.std.proofs.Common.{List, [], ◌∷◌, filter, map, refl, ap, ◌∙◌}
use Rattle.std.proofs.lemmas.List.{map-append}
use Rattle.std.proofs.lemmas.List.Elements.{filter-append}
use Rattle.area_routes.proofs.AddsLemmas.{Adds}
use Rattle.best_ways.specs.Values.{RouteValue}
use Rattle.study_documents.specs.Compared.{changes_among, is_change, routes_at}

pub changes_add : (before now : List RouteValue) → Adds (changes_among before now) (λ net. filter is_change (routes_at before now net ∷ []))
changes_add before now = record {
  none = refl;
  push = λ prefixes net.
      ap (filter is_change) (map-append (routes_at before now) prefixes (net ∷ []))
      ∙ filter-append is_change (map (routes_at before now) prefixes) (routes_at before now net ∷ []);
}
