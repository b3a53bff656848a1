-- Where there is no LSA of AS scope, no router has an external route.
use Rattle.std.proofs.Common.{◌≡◌, ◌∙◌, ℕ, Bool, true, false, cond, List, [], ◌∷◌, ◌++◌, length, refl, ap}
use Rattle.std.specs.List.{filter_map, flat_map}
use Rattle.lsa_codec.specs.declared.address.RouterId.{RouterId}
use Rattle.lsdb.specs.declared.section.Section.TheVariants.{AsWide}
use Rattle.lsdb.specs.Lists.{Lists, lsas_of}
use Rattle.best_ways.specs.Routes.{routes_of}
use Rattle.best_ways.specs.Values.{RouteValue}
use Rattle.external_routes.specs.External.{external_candidate, externals_of}
use Rattle.external_routes.specs.Flooding.{is_attached_outside_stubs}
use Rattle.audit_routes.specs.Compatibility.{classless, dependent_nets, dependent_places, externals_over}
use Rattle.audit_routes.specs.OwnExternals.{route_places}
use Rattle.audit_routes.specs.Ways.{WaysValue, ways_of}

flat_nothing : {X Y : Type 0} (f : X → List Y) → ((x : X) → f x ≡ []) → (xs : List X) → flat_map f xs ≡ []
flat_nothing f none [] = refl
flat_nothing f none (x ∷ xs) = ap (λ l. l ++ flat_map f xs) (none x) ∙ flat_nothing f none xs

nothing_in : {X : Type 0} (xs : List X) → length xs ≡ 0 → xs ≡ []
nothing_in [] h = refl
nothing_in (x ∷ xs) h = absurd cc

module _ (db : Lists) (empty : length (lsas_of AsWide db) ≡ 0) where
  no_externals : (w : WaysValue) → externals_over db w ≡ []
  unfolding externals_of
  no_externals w = by (is_attached_outside_stubs db w.router)
    where
      by : (b : Bool) → routes_of (cond b (filter_map (external_candidate w.router w.routes w.entries) (lsas_of AsWide db)) []) ≡ []
      by true = ap (λ (lsas : List (List ℕ)). routes_of (filter_map (external_candidate w.router w.routes w.entries) lsas)) (nothing_in (lsas_of AsWide db) empty)
      by false = refl

  pub no_places : (routers : List RouterId) → flat_map (λ router. dependent_places db (ways_of db router)) routers ≡ []
  no_places routers =
      flat_nothing (λ router. dependent_places db (ways_of db router))
      (λ router.
      ap (λ (rs : List RouteValue). route_places router (dependent_nets (externals_over db (classless (ways_of db router))) rs))
      (no_externals (ways_of db router)))
      routers
