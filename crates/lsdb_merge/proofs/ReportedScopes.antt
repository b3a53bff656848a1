-- The scopes of the reports, each once, are those of the database.
use Rattle.std.proofs.Common.{◌≡◌, ℕ, zero, suc, ◌<◌, inl, inr, refl, sym, ◌∙◌, ap, subst, List, [], ◌∷◌, ◌++◌, length, get_or, map, arith}
use Rattle.std.specs.Prelude.{Contains, IsPermutation}
use Rattle.std.specs.List.{Any}
use Rattle.std.proofs.lemmas.List.{get_or-map, length-map}
use Rattle.std.proofs.lemmas.List.Elements.{All-contains, All-weaker, Contains-append_cases, Contains-append_left, Contains-append_right}
use Rattle.std.proofs.lemmas.List.Sorted.{Contains-permutation, IsPermutation-sym}
use Rattle.std.proofs.lemmas.Option.{slice_get_cases}
use Rattle.lsa_instances.specs.declared.place.Scope.{Scope}
use Rattle.lsa_instances.specs.declared.place.Scope.TheVariants.{Area, AsWide}
use Rattle.lsa_instances.specs.declared.observation.Observation.{Observation}
use Rattle.lsa_instances.specs.declared.area.AreaReport.{AreaReport}
use Rattle.lsdb_merge.specs.Joining.{AreScopes, IsReported}
use Rattle.lsdb_merge.specs.steps.Scopes.{AreOnce, reported_scopes}

pub in_map : {X Y : Type 0} (f : X → Y) (xs : List X) (k : ℕ) (d : X) → k < length xs → Contains (map f xs) (f (get_or xs k d))
in_map f xs k d l = (k, omega (arith, l, length-map xs f), get_or-map f xs k d (f (get_or xs k d)) l)

pub from_map : {X Y : Type 0} (f : X → Y) (xs : List X) (y : Y) → Contains (map f xs) y → Any (λ x. f x ≡ y) xs
from_map f xs y c =
    let l : c.0 < length xs = omega (arith, c.1, length-map xs f) in
    elim (slice_get_cases xs c.0).1 as (λ _. Any (λ x. f x ≡ y) xs) [
      | inl s ↦ (c.0, s.0, s.1, s.3, ap f (sym s.3) ∙ sym (get_or-map f xs c.0 s.0 y l) ∙ c.2)
      | inr s ↦ absurd (omega (arith, s.0, l))
    ]

not_area : (id : _) (k : ℕ) → k < 1 → get_or (AsWide ∷ []) k (Area id) ≡ Area id → ⊥
not_area id zero l e = cc
not_area id (suc k) l e = absurd (omega (arith, l))

module _ {A : Type 0} (areas : List AreaReport) (newest : List (Observation A)) where
  abbrev OfAreas : List Scope
  OfAreas = map (λ area. Area area.id) areas

  abbrev OfLsas : List Scope
  OfLsas = map (λ x. x.scope) newest

  is_reported : (y : Scope) → Contains (reported_scopes areas newest) y → IsReported areas newest y
  is_reported AsWide c = tt
  is_reported (Area id) c =
      elim (Contains-append_cases (OfAreas ++ OfLsas) (AsWide ∷ []) (Area id) c) as (λ _. IsReported areas newest (Area id)) [
        | inl b ↦ elim (Contains-append_cases OfAreas OfLsas (Area id) b) as (λ _. IsReported areas newest (Area id)) [
          | inl a ↦ let t = from_map (λ (area : AreaReport). Area area.id) areas (Area id) a in inl (t.0, t.1, t.2, t.3, let e = t.4 in cc)
          | inr a ↦ inr (from_map (λ (x : Observation A). x.scope) newest (Area id) a)
        ]
        | inr a ↦ absurd (not_area id a.0 a.1 a.2)
      ]

  pub scopes_of : (reported sorted given once : List Scope) → reported ≡ reported_scopes areas newest → IsPermutation reported sorted → given ≡ sorted
      → AreOnce given once → AreScopes areas newest once
  scopes_of reported sorted given once e same g h =
      let all = reported_scopes areas newest in
      let C : List Scope → Scope → Type 0 = λ xs y. Contains xs y in
      let there : (y : Scope) → Contains all y → Contains once y =
      λ (y : Scope) (c : Contains all y). All-contains (Contains once) given y h.whole
      (subst (λ (xs : List Scope). C xs y) (sym g) (Contains-permutation reported sorted y same (subst (λ (xs : List Scope). C xs y) (sym e) c))) in
      let back : (y : Scope) → Contains given y → IsReported areas newest y =
      λ (y : Scope) (c : Contains given y). is_reported y
      (subst (λ (xs : List Scope). C xs y) e (Contains-permutation sorted reported y (IsPermutation-sym reported sorted same)
      (subst (λ (xs : List Scope). C xs y) g c))) in
      record {
        order = h.order;
        each = All-weaker (Contains given) (IsReported areas newest) back once h.each;
        areas_there =
            λ k d l.
            there _ (Contains-append_left (OfAreas ++ OfLsas) (AsWide ∷ []) _
            (Contains-append_left OfAreas OfLsas _ (in_map (λ (area : AreaReport). Area area.id) areas k d l)));
        lsas_there =
            λ k d l.
            there _ (Contains-append_left (OfAreas ++ OfLsas) (AsWide ∷ []) _
            (Contains-append_right OfAreas OfLsas _ (in_map (λ (x : Observation A). x.scope) newest k d l)));
        as_there =
            there AsWide (Contains-append_right (OfAreas ++ OfLsas) (AsWide ∷ []) AsWide (0, omega arith, refl));
      }
