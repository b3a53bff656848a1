-- The external routes of a router, depending on whether it examines AS-external-LSAs at all.
use Rattle.std.proofs.Common.{◌≡◌, ◌∙◌, ℕ, Bool, true, false, cond, List, [], ◌∷◌, length, refl, sym, ap, subst}
use Rattle.std.specs.List.{filter_map}
use Rattle.lsa_codec.specs.declared.address.RouterId.{RouterId}
use Rattle.lsdb.specs.declared.section.Section.TheVariants.{AsWide}
use Rattle.lsdb.specs.Lists.{Lists, lsas_of}
use Rattle.lsa_codec.specs.Prefix.{Net}
use Rattle.best_ways.specs.Best.{Gathers}
use Rattle.best_ways.specs.Candidate.{Candidate}
use Rattle.best_ways.specs.Routes.{routes_of}
use Rattle.area_routes.specs.Values.{EntryValue}
use Rattle.best_ways.specs.Values.{RouteValue}
use Rattle.external_routes.specs.declared.external_lsas.ExternalLsa.{ExternalLsa}
use Rattle.external_routes.specs.Flooding.{is_attached_outside_stubs}
use Rattle.external_routes.specs.External.{external_candidate, externals_of}
use Rattle.external_routes.specs.ExternalLsas.{AreExternalLsasOf}
use Rattle.external_routes.specs.steps.Paths.{candidate_of}
use Rattle.external_routes.specs.steps.Lookup.{WaysInside}
use Rattle.external_routes.proofs.Listed.{same_routes}

module _ (router : RouterId) (routes : List RouteValue) (entries : List EntryValue) where
  -- the paths of the LSAs in use
  abbrev pub listed : List ExternalLsa → List (Candidate Net)
  listed found = filter_map (candidate_of router routes entries) found

  -- what was gathered from them with these ways inside the AS
  pub gathered : (found : List ExternalLsa) (inside : WaysInside) (ways : List (Candidate Net))
      → inside ≡ record { routes = routes; entries = entries }
      → Gathers (filter_map (candidate_of router inside.routes inside.entries) found) ways → Gathers (listed found) ways
  gathered found inside ways same all =
      subst (λ (i : WaysInside). Gathers (filter_map (candidate_of router i.routes i.entries) found) ways) same all

module _ (db : Lists) (router : RouterId) (routes : List RouteValue) (entries : List EntryValue) where
  pub examines_none : is_attached_outside_stubs db router ≡ false → [] ≡ externals_of db router routes entries
  unfolding externals_of
  examines_none h = sym (ap (λ b. routes_of (cond b (filter_map (external_candidate router routes entries) (lsas_of AsWide db)) [])) h)

  pub examines_empty : length (lsas_of AsWide db) ≡ 0 → [] ≡ externals_of db router routes entries
  unfolding externals_of
  examines_empty none = by (is_attached_outside_stubs db router) (lsas_of AsWide db) none
    where
      by : (b : Bool) (lsas : List (List ℕ)) → length lsas ≡ 0
          → [] ≡ routes_of (cond b (filter_map (external_candidate router routes entries) lsas) [])
      by true [] none = refl
      by false [] none = refl
      by b (lsa ∷ lsas) none = cc

  examines_all : is_attached_outside_stubs db router ≡ true
      → routes_of (filter_map (external_candidate router routes entries) (lsas_of AsWide db)) ≡ externals_of db router routes entries
  unfolding externals_of
  examines_all h = sym (ap (λ b. routes_of (cond b (filter_map (external_candidate router routes entries) (lsas_of AsWide db)) [])) h)

  pub examines_listed : (found : List ExternalLsa) → AreExternalLsasOf (lsas_of AsWide db) found → is_attached_outside_stubs db router ≡ true
      → routes_of (listed router routes entries found) ≡ externals_of db router routes entries
  examines_listed found are h = same_routes router routes entries (lsas_of AsWide db) found are ∙ examines_all h
