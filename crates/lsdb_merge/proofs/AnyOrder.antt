-- What is joined of the same observations and areas, in any order, each any number of times.
use Rattle.std.proofs.Common.{◌≡◌, ℕ, refl, sym, ◌∙◌, ap, subst, inl, inr, Bool, true, false, cond, List, [], ◌∷◌, map, not, ◌==◌, ◌&&◌}
use Rattle.std.specs.Prelude.{All, Contains, Some}
use Rattle.std.specs.List.{Any, filter}
use Rattle.std.specs.Ordering.{is_eq}
use Rattle.std.specs.declared.cmp.Ordering.TheVariants.{Less}
use Rattle.std.proofs.lemmas.List.{map-id}
use Rattle.std.proofs.lemmas.List.Elements.{All-contains, All-weaker}
use Rattle.lsa_codec.specs.declared.address.AreaId.{AreaId}
use Rattle.lsa_codec.specs.Areas.{is_backbone}
use Rattle.lsa_instances.specs.declared.keeping.FlushedLsas.{FlushedLsas}
use Rattle.lsa_instances.specs.declared.place.Place.{Place}
use Rattle.lsa_instances.specs.declared.place.Scope.{Scope}
use Rattle.lsa_instances.specs.declared.place.Scope.TheVariants.{Area, AsWide}
use Rattle.lsa_instances.specs.declared.observation.Observation.{Observation}
use Rattle.lsa_instances.specs.Areas.{is_stub_kind}
use Rattle.lsa_instances.specs.Newest.{AreSame, is_of_scope, lsas_of_scope, place_and_bytes}
use Rattle.lsa_instances.specs.Order.{scope_cmp}
use Rattle.lsa_instances.proofs.OrderLemmas.{scope_total}
use Rattle.lsa_instances.proofs.SameLemmas.{any_same}
use Rattle.lsa_instances.proofs.SameValuesLemmas.{same_values}
use Rattle.lsdb.specs.Lists.{AreaHead}
use Rattle.lsa_instances.specs.declared.area.AreaReport.{AreaReport}
use Rattle.lsdb_merge.specs.Joining.{AreScopes, IsReported, Joining, head, is_stub, joined, section}
use Rattle.lsdb_merge.proofs.ReportedScopes.{from_map, in_map}

abbrev Before : Scope → Scope → Type 0
Before a b = scope_cmp a b ≡ Less

never_both : (a b : Scope) → Before a b → Before b a → ⊥
never_both a b p q = let e = scope_total.antisymm a b in absurd (cc)

module _ (areas others : List AreaReport) (same : AreSame areas others) where
  same_stub : (id : AreaId) → is_stub areas id ≡ is_stub others id
  same_stub id = ap (λ b. not (is_backbone id) && b) (any_same (λ area. is_stub_kind area.kind && (area.id.0 == id.0)) areas others same)

  same_head : (scope : Scope) → head areas scope ≡ head others scope
  same_head (Area id) = ap (λ b. let h : AreaHead = record { id = id.0; is_stub = b } in Some h) (same_stub id)
  same_head AsWide = refl

-- what a database keeps of an observation
abbrev Kept : Type 0
Kept = Place × List ℕ

-- the LSAs of a scope, by what a database keeps
abbrev kept_of : Scope → List Kept → List (List ℕ)
kept_of scope kept = map (λ v. v.1) (filter (λ v. is_eq (scope_cmp v.0.scope scope)) kept)

module _ {A : Type 0} where
  one_more : (b : Bool) (x : Observation A) (xs : List (Observation A)) (ks : List Kept) → map (λ y. y.lsa) xs ≡ map (λ v. v.1) ks
      → map (λ y. y.lsa) (cond b (x ∷ xs) xs) ≡ map (λ v. v.1) (cond b (place_and_bytes x ∷ ks) ks)
  one_more true x xs ks e = ap (λ ls. x.lsa ∷ ls) e
  one_more false x xs ks e = e

  lsas_kept : (scope : Scope) (xs : List (Observation A)) → lsas_of_scope scope xs ≡ kept_of scope (map place_and_bytes xs)
  lsas_kept scope [] = refl
  lsas_kept scope (x ∷ xs) =
      one_more (is_of_scope scope x) x (filter (is_of_scope scope) xs)
      (filter (λ v. is_eq (scope_cmp v.0.scope scope)) (map place_and_bytes xs)) (lsas_kept scope xs)

  same_lsas : (scope : Scope) (xs ys : List (Observation A)) → map place_and_bytes xs ≡ map place_and_bytes ys
      → lsas_of_scope scope xs ≡ lsas_of_scope scope ys
  same_lsas scope xs ys e = lsas_kept scope xs ∙ ap (kept_of scope) e ∙ sym (lsas_kept scope ys)

  abbrev scopes_in : List (Observation A) → List Scope
  scopes_in xs = map (λ x. x.scope) xs

  scopes_kept : (xs : List (Observation A)) → scopes_in xs ≡ map (λ (v : Kept). v.0.scope) (map place_and_bytes xs)
  scopes_kept [] = refl
  scopes_kept (x ∷ xs) = ap (λ scopes. x.scope ∷ scopes) (scopes_kept xs)

  scope_in : (xs ys : List (Observation A)) (scope : Scope) → map place_and_bytes xs ≡ map place_and_bytes ys
      → Any (λ x. x.scope ≡ scope) xs → Any (λ x. x.scope ≡ scope) ys
  scope_in xs ys scope e a =
      let alike : scopes_in xs ≡ scopes_in ys = scopes_kept xs ∙ ap (map (λ (v : Kept). v.0.scope)) e ∙ sym (scopes_kept ys) in
      let C : Scope → Type 0 = λ s. Contains (scopes_in xs) s in
      let D : List Scope → Type 0 = λ scopes. Contains scopes scope in
      let within : Contains (scopes_in xs) scope =
      subst C (ap (λ (x : Observation A). x.scope) a.3 ∙ a.4) (in_map (λ (x : Observation A). x.scope) xs a.0 a.1 a.2) in
      from_map (λ (x : Observation A). x.scope) ys scope (subst D alike within)

  -- each scope of these stands among the scopes of the others
  found : (areas others : List AreaReport) (xs ys : List (Observation A)) (scopes : List Scope) → AreSame areas others
      → map place_and_bytes xs ≡ map place_and_bytes ys → AreScopes others ys scopes → (scope : Scope) → IsReported areas xs scope → Contains scopes scope
  found areas others xs ys scopes same e s AsWide h = s.as_there
  found areas others xs ys scopes same e s (Area id) (inl a) =
      let P : AreaId → Type 0 = λ i. Contains scopes (Area i) in
      let other : Contains others a.1 = All-contains (Contains others) areas a.1 same.0 (a.0, a.2, a.3) in
      subst P a.4 (All-contains (λ area. Contains scopes (Area area.id)) others a.1 s.areas_there other)
  found areas others xs ys scopes same e s (Area id) (inr b) =
      let P : Scope → Type 0 = λ y. Contains scopes y in
      let a = scope_in xs ys (Area id) e b in
      subst P a.4 (All-contains (λ x. Contains scopes x.scope) ys a.1 s.lsas_there (a.0, a.2, a.3))

  all_found : (areas others : List AreaReport) (xs ys : List (Observation A)) (scopes more : List Scope) → AreSame areas others
      → map place_and_bytes xs ≡ map place_and_bytes ys → AreScopes areas xs scopes → AreScopes others ys more
      → All (λ scope. Any (λ z. z ≡ scope) more) scopes
  all_found areas others xs ys scopes more same e s t =
      All-weaker (IsReported areas xs) (λ scope. Any (λ z. z ≡ scope) more)
      (λ scope h. let c = found areas others xs ys more same e t scope h in (c.0, scope, c.1, c.2, refl)) scopes s.each

  same_scopes : (areas others : List AreaReport) (xs ys : List (Observation A)) (scopes more : List Scope) → AreSame areas others
      → map place_and_bytes xs ≡ map place_and_bytes ys → AreScopes areas xs scopes → AreScopes others ys more → scopes ≡ more
  same_scopes areas others xs ys scopes more same e s t =
      sym (map-id scopes)
      ∙ same_values (λ scope. scope) Before never_both scopes more s.order t.order
      (all_found areas others xs ys scopes more same e s t) (all_found others areas ys xs more scopes (same.1, same.0) (sym e) t s)
      ∙ map-id more

  same_section : (areas others : List AreaReport) (xs ys : List (Observation A)) → AreSame areas others
      → map place_and_bytes xs ≡ map place_and_bytes ys → (scope : Scope) → section areas xs scope ≡ section others ys scope
  same_section areas others xs ys same e scope =
      λ i. record { area = same_head areas others same scope i; lsas = same_lsas scope xs ys e i }

  pub same_joined : (flushed : FlushedLsas) (reported other : List (Observation A)) (areas others : List AreaReport)
      → (one : Joining flushed reported areas) (two : Joining flushed other others)
      → AreSame areas others → map place_and_bytes one.newest ≡ map place_and_bytes two.newest → joined one ≡ joined two
  same_joined flushed reported other areas others one two same e =
      let scopes : one.scopes ≡ two.scopes =
      same_scopes areas others one.newest two.newest one.scopes two.scopes same e one.are_scopes two.are_scopes in
      λ i. map (λ scope. same_section areas others one.newest two.newest same e scope i) (scopes i)
