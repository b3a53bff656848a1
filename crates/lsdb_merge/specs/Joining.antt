-- The database that observations make: the newest instance of each LSA that is not forgotten, in the section of its scope.
-- Flushed LSAs are left out or kept.
use Rattle.std.specs.Prelude.{◌≡◌, ◌⊎◌, Bool, List, map, All, AllPairs, Contains, Option, None, Some, ◌==◌, ◌&&◌, not}
use Rattle.std.specs.List.{Any, list_any}
use Rattle.std.specs.declared.cmp.Ordering.TheVariants.{Less}
use Rattle.forgotten_instances.specs.Forgotten.{remembered}
use Rattle.lsa_codec.specs.declared.address.AreaId.{AreaId}
use Rattle.lsa_codec.specs.Areas.{is_backbone}
use Rattle.lsa_instances.specs.declared.area.AreaReport.{AreaReport}
use Rattle.lsa_instances.specs.declared.keeping.FlushedLsas.{FlushedLsas}
use Rattle.lsa_instances.specs.declared.place.Scope.{Scope}
use Rattle.lsa_instances.specs.declared.place.Scope.TheVariants.{Area, AsWide}
use Rattle.lsa_instances.specs.declared.observation.Observation.{Observation}
use Rattle.lsa_instances.specs.Areas.{is_stub_kind}
use Rattle.lsa_instances.specs.Newest.{AreNewest, lsas_of_scope}
use Rattle.lsa_instances.specs.Order.{scope_cmp}
use Rattle.lsdb.specs.Lists.{AreaHead, SectionLsas, Lists}

-- whether a file reports the area as a stub area or a not-so-stubby one
abbrev pub any_stub : List AreaReport → AreaId → Bool
any_stub areas id = list_any (λ area. is_stub_kind area.kind && (area.id.0 == id.0)) areas

-- the backbone is never a stub area, whatever files report (RFC 2328, 3.6)
abbrev pub is_stub : List AreaReport → AreaId → Bool
is_stub areas id = not (is_backbone id) && any_stub areas id

-- an area and its kind; none for the LSAs of AS scope
abbrev pub head : List AreaReport → Scope → Option AreaHead
head areas (Area id) = Some (record { id = id.0; is_stub = is_stub areas id })
head areas AsWide = None

abbrev pub section : {A : Type 0} → List AreaReport → List (Observation A) → Scope → SectionLsas
section areas newest scope = record { area = head areas scope; lsas = lsas_of_scope scope newest }

-- the scope of an area that is reported, or of an LSA that stands
abbrev pub IsReported : {A : Type 0} → List AreaReport → List (Observation A) → Scope → Type 0
IsReported areas newest AsWide = Unit {0}
IsReported areas newest (Area id) = Any (λ area. area.id ≡ id) areas ⊎ Any (λ x. x.scope ≡ Area id) newest

-- the scopes of a database, each once: areas rise, and the AS stands last
pub record AreScopes {A : Type 0} (areas : List AreaReport) (newest : List (Observation A)) (scopes : List Scope) : Type 0 where
  pub order : AllPairs (λ a b. scope_cmp a b ≡ Less) scopes
  pub each : All (IsReported areas newest) scopes
  pub areas_there : All (λ area. Contains scopes (Area area.id)) areas
  pub lsas_there : All (λ x. Contains scopes x.scope) newest
  pub as_there : Contains scopes AsWide

-- the LSAs and areas that files report, joined: the newest of the LSAs that are not forgotten, and the scopes
pub record Joining {A : Type 0} (flushed : FlushedLsas) (reported : List (Observation A)) (areas : List AreaReport) : Type 0 where
  pub newest : List (Observation A)
  pub scopes : List Scope
  pub are_newest : AreNewest flushed (remembered reported) newest
  pub are_scopes : AreScopes areas newest scopes

-- the sections: the areas, and after them the LSAs of AS scope
abbrev pub joined : {A : Type 0} {flushed : FlushedLsas} {reported : List (Observation A)} {areas : List AreaReport} → Joining flushed reported areas → Lists
joined {A} {flushed} {reported} {areas} joining = map (section areas joining.newest) joining.scopes
