-- The names of LSAs that pass a test, one LSA after another.
use Rattle.std.proofs.Common.{[], ◌∷◌, map, filter, Option, refl, ap, ◌∙◌}
use Rattle.std.proofs.lemmas.List.{map-append}
use Rattle.std.proofs.lemmas.List.Elements.{filter-append}
use Rattle.lsa_names.specs.LsaNames.{lsa_name}
use Rattle.area_routes.proofs.AddsLemmas.{Adds}
use Rattle.audit_lsas.specs.declared.scope.AreaScope.{AreaScope}
use Rattle.audit_lsas.specs.Found.{LsaTest, area_in, names_of}

pub names_adds : (test : LsaTest) (scope : Option AreaScope) → Adds (names_of test scope) (λ lsa. names_of test scope (lsa ∷ []))
names_adds test scope = record {
  none = refl;
  push = λ xs x.
      ap (map (lsa_name (area_in scope))) (filter-append (test scope) xs (x ∷ []))
      ∙ map-append (lsa_name (area_in scope)) (filter (test scope) xs) (filter (test scope) (x ∷ []));
}
