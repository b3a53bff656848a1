-- The areas whose tree a router lacks after calls are among those that the calls touch.
use Rattle.std.proofs.Common.{◌≡◌, ◌≤◌, ℕ, Bool, true, false, not, filter, List, [], ◌∷◌, length, cond, Option, Some, None, inl, inr}
use Rattle.std.proofs.Common.{refl, sym, ap, ◌∙◌, subst, arith, true≢false}
use Rattle.std.specs.Prelude.{All}
use Rattle.std.specs.List.{AllByRecursion, cons_option, find}
use Rattle.std.proofs.lemmas.Bool.{eqb-true}
use Rattle.std.proofs.lemmas.List.Elements.{All-from_recursion}
use Rattle.lsa_codec.specs.declared.address.AreaId.{AreaId}
use Rattle.lsa_codec.specs.declared.address.RouterId.{RouterId}
use Rattle.lsdb.specs.declared.section.Section.TheVariants.{Area}
use Rattle.lsdb.specs.Lists.{AreaHead, Lists, SectionLsas, areas_of, has_id, is_section, lsas_of, lsas_or_none}
use Rattle.area_graph.proofs.MemberLemmas.{In, In-filter, filter-In}
use Rattle.area_routes.specs.Attached.{has_live_router_lsa, is_attached}
use Rattle.edit_history.specs.Session.{state}
use Rattle.recalculate.specs.Calls.{AreMade, Call, after_calls, areas_lacking, areas_of_router, areas_touched, head_touched}
use Rattle.routing_table.specs.Counting.{CountsAtMost}
use Rattle.routing_table.specs.KeptTrees.{is_kept}
use Rattle.recalculate.specs.Planning.{PlannerValue}
use Rattle.recalculate.specs.Reached.{IsReached}
use Rattle.recalculate.proofs.CallsSpare.{calls_spare}
use Rattle.area_routes.proofs.SameGraphLemmas.{same_live}

-- ---- lists

module _ {X : Type 0} where
  all_In : (P : X → Type 0) (xs : List X) → ((x : X) → In xs x → P x) → AllByRecursion P xs
  all_In P [] each = tt
  all_In P (x ∷ xs) each = (each x (inl refl), all_In P xs (λ y there. each y (inr there)))

  -- a test that passes wherever another one does passes as often at least
  passes_as_often : (p q : X → Bool) (xs : List X) → ((x : X) → In xs x → p x ≡ true → q x ≡ true) → length (filter p xs) ≤ length (filter q xs)
  passes_as_often p q [] each = omega arith
  passes_as_often p q (x ∷ xs) each = by (p x) (q x) refl refl (passes_as_often p q xs (λ y there. each y (inr there)))
    where
      by : (a b : Bool) → p x ≡ a → q x ≡ b → length (filter p xs) ≤ length (filter q xs)
          → length (cond a (x ∷ filter p xs) (filter p xs)) ≤ length (cond b (x ∷ filter q xs) (filter q xs))
      by true true e f rest = omega (arith, rest)
      by true false e f rest = absurd (true≢false (sym (each x (inl refl) e) ∙ f))
      by false true e f rest = omega (arith, rest)
      by false false e f rest = rest

-- ---- a router that lacks no tree

-- an area of which LSAs are found has its head among the areas
head_there : (area : AreaId) (db : Lists) (s : SectionLsas) → find (is_section (Area area)) db ≡ Some s
    → (head : AreaHead) × In (areas_of db) head × (head.id ≡ area.0)
head_there area [] s found = absurd cc
head_there area (one ∷ db) s found = by one.area (has_id area.0 one.area) refl found (head_there area db s)
  where
    Has : List AreaHead → Type 0
    Has heads = (head : AreaHead) × In heads head × (head.id ≡ area.0)

    by : (o : Option AreaHead) (b : Bool) → has_id area.0 o ≡ b → cond b (Some one) (find (is_section (Area area)) db) ≡ Some s
        → (find (is_section (Area area)) db ≡ Some s → Has (areas_of db)) → Has (cons_option o (areas_of db))
    by None true e h rest = absurd (true≢false (sym e))
    by None false e h rest = rest h
    by (Some head) true e h rest = (head, inl refl, eqb-true head.id area.0 e)
    by (Some head) false e h rest = let r = rest h in (r.0, inr r.1, r.2)

module _ (router : RouterId) (p : PlannerValue) (none : areas_lacking router p ≡ []) where
  head_kept : (head : AreaHead) → In (areas_of (state p.session)) head → is_attached (state p.session) (record { 0 = head.id }) router ≡ true
      → is_kept p.kept (record { 0 = head.id }) router ≡ true
  head_kept head there attached = by (is_kept p.kept (record { 0 = head.id }) router) refl
    where
      here : In (areas_of_router router p) head
      here = In-filter (λ (a : AreaHead). is_attached (state p.session) (record { 0 = a.id }) router) (areas_of (state p.session)) head there attached

      by : (b : Bool) → is_kept p.kept (record { 0 = head.id }) router ≡ b → b ≡ true
      by true e = refl
      by false e = absurd (subst (λ (l : List AreaHead). In l head) none
          (In-filter (λ (a : AreaHead). not (is_kept p.kept (record { 0 = a.id }) router)) (areas_of_router router p) head here (ap not e)))

  attached_kept : (area : AreaId) → is_attached (state p.session) area router ≡ true → is_kept p.kept area router ≡ true
  attached_kept area attached = by (find (is_section (Area area)) (state p.session)) refl attached
    where
      by : (o : Option SectionLsas) → find (is_section (Area area)) (state p.session) ≡ o → has_live_router_lsa router (lsas_or_none o) ≡ true
          → is_kept p.kept area router ≡ true
      by None e h = absurd (true≢false (sym h))
      by (Some s) e h =
          let head = head_there area (state p.session) s e in
          let id : (let a : AreaId = record { 0 = head.0.id } in a) ≡ area = ap (λ (n : ℕ). let a : AreaId = record { 0 = n } in a) head.2 in
          subst (λ (a : AreaId). is_kept p.kept a router ≡ true) id
          (head_kept head.0 head.1 (subst (λ (a : AreaId). is_attached (state p.session) a router ≡ true) (sym id) attached))

  -- ---- the law

  module _ (calls : List Call) (reached : IsReached p.session) (made : AreMade p calls) where
    lacking_touched : (head : AreaHead) → In (areas_of_router router (after_calls p calls)) head
        → not (is_kept (after_calls p calls).kept (record { 0 = head.id }) router) ≡ true → head_touched p calls head ≡ true
    lacking_touched head there lacks = by (head_touched p calls head) refl
      where
        area : AreaId
        area = record { 0 = head.id }

        attached : is_attached (state (after_calls p calls).session) area router ≡ true
        attached = (filter-In (λ (a : AreaHead). is_attached (state (after_calls p calls).session) (record { 0 = a.id }) router)
            (areas_of (state (after_calls p calls).session)) head there).1

        by : (b : Bool) → head_touched p calls head ≡ b → b ≡ true
        by true e = refl
        by false e =
            let spared = calls_spare area p calls reached made e in
            let before : is_attached (state p.session) area router ≡ true =
            same_live (lsas_of (Area area) (state p.session)) (lsas_of (Area area) (state (after_calls p calls).session)) (sym spared.graph) router
            ∙ attached in
            absurd (true≢false (sym lacks ∙ ap not (spared.trees router (attached_kept area before))))

    pub all_touched : All (λ head. head_touched p calls head ≡ true) (areas_lacking router (after_calls p calls))
    all_touched =
        All-from_recursion (λ head. head_touched p calls head ≡ true) (areas_lacking router (after_calls p calls))
        (all_In (λ head. head_touched p calls head ≡ true) (areas_lacking router (after_calls p calls))
        (λ head there. (let parts = filter-In (λ (a : AreaHead). not (is_kept (after_calls p calls).kept (record { 0 = a.id }) router))
        (areas_of_router router (after_calls p calls)) head there in lacking_touched head parts.0 parts.1)))

    pub few_lacking : length (areas_lacking router (after_calls p calls)) ≤ length (areas_touched router p calls)
    few_lacking =
        passes_as_often (λ (a : AreaHead). not (is_kept (after_calls p calls).kept (record { 0 = a.id }) router)) (head_touched p calls)
        (areas_of_router router (after_calls p calls)) lacking_touched

    pub few_runs : (runs : ℕ) → CountsAtMost (length (areas_lacking router (after_calls p calls))) (after_calls p calls).runs runs
        → CountsAtMost (length (areas_touched router p calls)) (after_calls p calls).runs runs
    few_runs runs counts = record { trees = counts.trees; few = omega (arith, counts.few, few_lacking); counts = counts.counts }
