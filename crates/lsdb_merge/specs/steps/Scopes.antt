-- Steps towards the scopes of a database and their sections.
use Rattle.std.specs.Prelude.{◌≡◌, ◌<◌, ◌^◌, ◌-◌, Bool, true, Option, None, Some, length, slice_get, List, [], ◌∷◌, ◌++◌, map, All, AllPairs, Contains}
use Rattle.std.specs.Ordering.{is_lt}
use Rattle.std.specs.declared.cmp.Ordering.TheVariants.{Less}
use Rattle.lsa_codec.specs.Key.{key_of}
use Rattle.lsa_codec.specs.Order.{key_cmp}
use Rattle.lsa_instances.specs.declared.place.Scope.{Scope}
use Rattle.lsa_instances.specs.declared.place.Scope.TheVariants.{Area, AsWide}
use Rattle.lsa_instances.specs.declared.observation.Observation.{Observation}
use Rattle.lsa_instances.specs.Newest.{lsas_of_scope}
use Rattle.lsa_instances.specs.Order.{scope_cmp, area_of}
use Rattle.lsa_instances.specs.declared.area.AreaReport.{AreaReport}

-- the scopes of the areas and the observations, in any order, some of them repeated; and the AS
abbrev pub reported_scopes : {A : Type 0} → List AreaReport → List (Observation A) → List Scope
reported_scopes areas newest = map (λ area. Area area.id) areas ++ map (λ x. x.scope) newest ++ AsWide ∷ []

-- the ID of an area has 32 bits
abbrev pub IsWide : Scope → Type 0
IsWide scope = area_of scope < 2 ^ 32

-- the same scopes, each once
pub record AreOnce (reported scopes : List Scope) : Type 0 where
  pub order : AllPairs (λ a b. scope_cmp a b ≡ Less) scopes
  pub wide : All IsWide scopes
  pub each : All (Contains reported) scopes
  pub whole : All (Contains scopes) reported

-- within each scope the keys rise
abbrev pub HaveRisingKeys : {A : Type 0} → List (Observation A) → Type 0
HaveRisingKeys newest = (scope : Scope) → AllPairs (λ a b. key_cmp (key_of a) (key_of b) ≡ Less) (lsas_of_scope scope newest)

-- whether a scope stands after the last of others
abbrev pub is_after : Option Scope → Scope → Bool
is_after None scope = true
is_after (Some last) scope = is_lt (scope_cmp last scope)

abbrev pub is_after_last : List Scope → Scope → Bool
is_after_last scopes scope = is_after (slice_get scopes (length scopes - 1)) scope
