-- A router that is attached to several areas examines the summary-LSAs of the backbone alone.
use Rattle.std.proofs.Common.{◌≡◌, ℕ, Bool, true, false, cond, List, [], ◌∷◌, ◌++◌, filter, Option, Some, None, refl, sym, ap, ◌∙◌, true≢false, ◌⊎◌, inl, inr, ⊎_elim}
use Rattle.std.specs.Prelude.{◌||◌, not}
use Rattle.std.specs.List.{list_any, find, cons_option}
use Rattle.std.proofs.lemmas.Bool.{and_parts, eqb-true}
use Rattle.lsa_codec.specs.Areas.{is_backbone}
use Rattle.lsa_codec.specs.declared.address.AreaId.{AreaId}
use Rattle.lsa_codec.specs.declared.address.RouterId.{RouterId}
use Rattle.lsdb.specs.declared.section.Section.TheVariants.{Area}
use Rattle.lsdb.specs.Lists.{AreaHead, Lists, areas_of, is_section, lsas_of, lsas_or_none}
use Rattle.area_routes.specs.Attached.{attached_areas, has_live_router_lsa, is_attached}
use Rattle.area_routes.specs.Inter.{backbone, entries_by, entries_of_all, examined, inter_entries, inter_of, inter_routes, routes_by}
use Rattle.area_routes.specs.Values.{AreaResultValue}
use Rattle.best_ways.specs.Values.{RouteValue}
use Rattle.external_routes.specs.Summaries.{borders, is_attached_elsewhere, is_head_of_area}
use Rattle.area_routes.specs.AreaResults.{results_in, results_of}
use Rattle.summary_metrics.specs.Refreshed.{id_of}

-- ---- an area with LSAs is one of the areas

module _ (area : AreaId) where
  area_listed : (ss : Lists) → (lsas_of (Area area) ss ≡ []) ⊎ (list_any (is_head_of_area area) (areas_of ss) ≡ true)
  area_listed [] = inl refl
  area_listed (s ∷ ss) = by s.area s.lsas (area_listed ss)
    where
      by : (head : Option AreaHead) (lsas : List (List ℕ)) → (lsas_of (Area area) ss ≡ []) ⊎ (list_any (is_head_of_area area) (areas_of ss) ≡ true)
          → (lsas_of (Area area) (record { area = head; lsas = lsas } ∷ ss) ≡ [])
          ⊎ (list_any (is_head_of_area area) (cons_option head (areas_of ss)) ≡ true)
      by None lsas rest = rest
      by (Some head) lsas rest = at (is_head_of_area area head) rest
        where
          at : (b : Bool) → (lsas_of (Area area) ss ≡ []) ⊎ (list_any (is_head_of_area area) (areas_of ss) ≡ true)
              → (lsas_or_none (cond b (Some (record { area = Some head; lsas = lsas })) (find (is_section (Area area)) ss)) ≡ [])
              ⊎ ((b || list_any (is_head_of_area area) (areas_of ss)) ≡ true)
          at true r = inr refl
          at false r = r

any_filtered : {X : Type 0} (p q : X → Bool) (xs : List X) → ((x : X) → p x ≡ true → q x ≡ true) → list_any p (filter q xs) ≡ list_any p xs
any_filtered p q [] implies = refl
any_filtered p q (x ∷ xs) implies = by (p x) (q x) refl refl (any_filtered p q xs implies)
  where
    by : (b c : Bool) → p x ≡ b → q x ≡ c → list_any p (filter q xs) ≡ list_any p xs
        → list_any p (cond c (x ∷ filter q xs) (filter q xs)) ≡ (p x || list_any p xs)
    by b true e f rest = ap (λ a. p x || a) rest
    by true false e f rest = absurd (true≢false (sym (implies x e) ∙ f))
    by false false e f rest = rest ∙ sym (ap (λ a. a || list_any p xs) e)

module _ (db : Lists) (area : AreaId) (router : RouterId) where
  pub attached_here : is_attached db area router ≡ true → list_any (is_head_of_area area) (attached_areas db router) ≡ true
  attached_here h =
      any_filtered (is_head_of_area area) (λ head. is_attached db (id_of head) router) (areas_of db)
      (λ head is. ap (λ n. is_attached db (record { 0 = n }) router) (eqb-true head.id area.0 is) ∙ h)
      ∙ ⊎_elim (λ none. absurd (true≢false (sym h ∙ ap (has_live_router_lsa router) none))) (λ listed. listed) (area_listed area db)

  of_several : (heads : List AreaHead) → list_any (is_head_of_area area) heads ≡ true → list_any (λ head. not (is_head_of_area area head)) heads ≡ true
      → examined (results_in db router heads) ≡ backbone (results_in db router heads)
  of_several [] here elsewhere = absurd (true≢false (sym here))
  of_several (head ∷ []) here elsewhere = by (is_head_of_area area head) here elsewhere
    where
      by : (b : Bool) → (b || false) ≡ true → (not b || false) ≡ true
          → examined (results_in db router (head ∷ [])) ≡ backbone (results_in db router (head ∷ []))
      by true h e = absurd (true≢false (sym e))
      by false h e = absurd (true≢false (sym h))
  of_several (head ∷ next ∷ heads) here elsewhere = refl

  pub examines_backbone : borders db area router ≡ true → examined (results_of db router) ≡ backbone (results_of db router)
  examines_backbone h =
      let parts = and_parts (is_attached db area router) (is_attached_elsewhere db area router) h in
      of_several (attached_areas db router) (attached_here parts.0) parts.1

-- ---- inter-area routes by the backbone

pub found_backbone : (results : List AreaResultValue) (r : AreaResultValue) → backbone results ≡ Some r → is_backbone r.area ≡ true
found_backbone [] r h = absurd cc
found_backbone (x ∷ xs) r h = by (is_backbone x.area) refl h (found_backbone xs r)
  where
    by : (b : Bool) → is_backbone x.area ≡ b → cond b (Some x) (backbone xs) ≡ Some r → (backbone xs ≡ Some r → is_backbone r.area ≡ true)
        → is_backbone r.area ≡ true
    by true e k rest = let is : x ≡ r = cc in sym (ap (λ (y : AreaResultValue). is_backbone y.area) is) ∙ e
    by false e k rest = rest k

module _ (db new : Lists) (same : lsas_of (Area (record { 0 = 0 })) new ≡ lsas_of (Area (record { 0 = 0 })) db) where
  of_backbone : (area : AreaId) → is_backbone area ≡ true → lsas_of (Area area) new ≡ lsas_of (Area area) db
  of_backbone area is =
      let zero_id : area.0 ≡ 0 = eqb-true area.0 0 is in
      ap (λ n. lsas_of (Area (record { 0 = n })) new) zero_id ∙ same ∙ sym (ap (λ n. lsas_of (Area (record { 0 = n })) db) zero_id)

  pub inter_alike : (router : RouterId) (results : List AreaResultValue) (intra : List RouteValue) → examined results ≡ backbone results
      → inter_of new router results intra ≡ inter_of db router results intra
  unfolding inter_of
  inter_alike router results intra is = by (backbone results) refl is
    where
      by : (o : Option AreaResultValue) → backbone results ≡ o → examined results ≡ o → inter_of new router results intra ≡ inter_of db router results intra
      by None h e = λ i. record {
        routes = (ap (routes_by new router intra) e ∙ sym (ap (routes_by db router intra) e)) i;
        routers = entries_of_all results ++ (ap (entries_by new router) e ∙ sym (ap (entries_by db router) e)) i;
      }
      by (Some r) h e =
          let lsas = of_backbone r.area (found_backbone results r h) in
          λ i. record {
            routes =
                (ap (routes_by new router intra) e ∙ (λ j. inter_routes router r intra (lsas j)) ∙ sym (ap (routes_by db router intra) e)) i;
            routers =
                entries_of_all results
                ++ (ap (entries_by new router) e ∙ (λ j. inter_entries router r (lsas j)) ∙ sym (ap (entries_by db router) e)) i;
          }
