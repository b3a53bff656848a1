-- The routing table of a router stays through a change of one LSA, where the LSA is steady or foreign.
use Rattle.std.proofs.Common.{◌≡◌, ℕ, true, false, List, [], ◌∷◌, ◌++◌, length, Option, Some, None, refl, sym, ap, ◌∙◌, subst, inl, inr, true≢false}
use Rattle.std.specs.Prelude.{slice_get}
use Rattle.std.specs.List.{AllZip, cons_option, find}
use Rattle.lsa_codec.specs.declared.address.AreaId.{AreaId}
use Rattle.lsa_codec.specs.declared.address.RouterId.{RouterId}
use Rattle.lsdb.specs.declared.section.Section.TheVariants.{Area}
use Rattle.lsdb.specs.declared.slot.SlotId.{SlotId}
use Rattle.lsdb.specs.Lists.{AreaHead, IsDatabase, Lists, SectionLsas, areas_of, has_id, is_section, lsas_of, lsas_or_none}
use Rattle.lsdb.specs.Slots.{Slots, item_at, lists_of, put, slot_at}
use Rattle.lsdb.proofs.AreaLemmas.{area_named}
use Rattle.lsdb.proofs.SlotLemmas.{between, section_with}
use Rattle.area_graph.specs.declared.cost_change.CostChange.{CostChange}
use Rattle.area_graph.specs.CostChanges.{AreChanged, IsChangedLsa}
use Rattle.area_graph.specs.Graphs.{AreOfArea, IsGraphOf}
use Rattle.area_graph.proofs.CostChangeLemmas.{one_changed as cost_changed_lsas}
use Rattle.area_graph.proofs.GraphLemmas.{are_of_area}
use Rattle.area_graph.proofs.MemberLemmas.{Contains-from_In, In-right}
use Rattle.std.proofs.lemmas.List.Elements.{All-contains}
use Rattle.lsa_codec.specs.Accepted.{IsAccepted}
use Rattle.unchanged_tables.specs.CostChanges.{IsCostChange}
use Rattle.area_routes.specs.Attached.{has_live_router_lsa, is_attached}
use Rattle.routing_table.specs.AreaTrees.{AreaTreesValue, IsAreaOf}
use Rattle.routing_table.specs.AreasTrees.{AreOfDatabase, KeptTreesValue, trees_at}
use Rattle.routing_table.specs.Tables.{table_in}
use Rattle.routing_table.proofs.MapLemmas.{if_found}
use Rattle.unchanged_tables.specs.ByTree.{IsOf, TreeIn, distances_by}
use Rattle.unchanged_tables.specs.Slack.{DistanceOf, IsSteadyLsa}
use Rattle.unchanged_tables.specs.Steady.{AreSteady, AreSteadyIn, IsElsewhere, IsSteadySection, distances_from}
use Rattle.unchanged_tables.proofs.SteadySections.{IsSteadyArea, elsewhere_live, passed}
use Rattle.unchanged_tables.proofs.SteadyTables.{table_stays}
use Rattle.unchanged_tables.proofs.TreeDistances.{tree_distances}

-- ---- lists that are the same except for one item

module _ {X : Type 0} (R : X → X → Type 0) (same : (x : X) → R x x) where
  all_same : (xs : List X) → AllZip R xs xs
  all_same [] = tt
  all_same (x ∷ xs) = (same x, all_same xs)

  one_changed : (front back : List X) (x y : X) → R x y → AllZip R (front ++ x ∷ back) (front ++ y ∷ back)
  one_changed [] back x y h = (h, all_same back)
  one_changed (z ∷ front) back x y h = (same z, one_changed front back x y h)

item_mid : {X : Type 0} (low high : List X) (x : X) → item_at (low ++ x ∷ high) (length low) ≡ Some x
item_mid [] high x = refl
item_mid (y ∷ low) high x = item_mid low high x

areas_mid : (low high : Lists) (area : Option AreaHead) (xs ys : List (List ℕ))
    → areas_of (low ++ section_with area xs ∷ high) ≡ areas_of (low ++ section_with area ys ∷ high)
areas_mid [] high area xs ys = refl
areas_mid (s ∷ low) high area xs ys = ap (cons_option s.area) (areas_mid low high area xs ys)

-- ---- one section

section_same : (router : RouterId) (s : SectionLsas) → IsSteadySection router s s
section_same router s = record { area = refl; lsas = by s.area }
  where
    by : (area : Option AreaHead) → AreSteadyIn router area s.lsas s.lsas
    by None = refl
    by (Some area) = inl (all_same _ (λ lsa. inl refl) s.lsas)

of_area : (router : RouterId) (id : ℕ) (area : Option AreaHead) (olds news : List (List ℕ)) → has_id id area ≡ true → IsSteadyArea router olds news
    → AreSteadyIn router area olds news
of_area router id None olds news named steady = absurd (true≢false (sym named))
of_area router id (Some area) olds news named steady = steady

section_found : (d : Slots) (i : ℕ) (head : AreaHead) (s : SectionLsas) → IsDatabase (lists_of d) → slice_get (areas_of (lists_of d)) i ≡ Some head
    → item_at (lists_of d) i ≡ Some s → find (is_section (Area (record { 0 = head.id }))) (lists_of d) ≡ Some s
section_found d i head s sound at here = sym (area_named d i head sound at).same ∙ here

-- ---- one LSA

module _ (d : Slots) (slot : SlotId) (router : RouterId) (before after : List ℕ) (head : AreaHead) (is : IsDatabase (lists_of d))
    (was : IsDatabase (lists_of (put d slot (Some before)))) (at : slot_at d slot ≡ Some (Some after))
    (here : slice_get (areas_of (lists_of d)) slot.section ≡ Some head) where
  abbrev area : AreaId
  area = record { 0 = head.id }

  abbrev front : List (List ℕ)
  front = (between d slot (Some after) (Some before) at).front

  abbrev back : List (List ℕ)
  back = (between d slot (Some after) (Some before) at).back

  abbrev olds : List (List ℕ)
  olds = front ++ before ∷ back

  abbrev news : List (List ℕ)
  news = front ++ after ∷ back

  found_new : find (is_section (Area area)) (lists_of d) ≡ Some (section_with (between d slot (Some after) (Some before) at).area news)
  found_new = section_found d slot.section head _ is here (between d slot (Some after) (Some before) at).here

  found_old : find (is_section (Area area)) (lists_of (put d slot (Some before))) ≡ Some (section_with (between d slot (Some after) (Some before) at).area olds)
  found_old =
      let w = between d slot (Some after) (Some before) at in
      section_found (put d slot (Some before)) slot.section head _ was
      (ap (λ (db : Lists). slice_get (areas_of db) slot.section) w.after
      ∙ ap (λ areas. slice_get areas slot.section) (areas_mid w.low w.high w.area olds news ∙ sym (ap areas_of w.before))
      ∙ here)
      (ap (λ (db : Lists). item_at db slot.section) w.after
      ∙ ap (item_at (w.low ++ section_with w.area olds ∷ w.high)) w.count
      ∙ item_mid w.low w.high (section_with w.area olds))

  area_unchanged : IsSteadyArea router olds news → table_in (lists_of d) router ≡ table_in (lists_of (put d slot (Some before))) router
  area_unchanged steady =
      let w = between d slot (Some after) (Some before) at in
      let s : SectionLsas = section_with w.area olds in
      let t : SectionLsas = section_with w.area news in
      let one : IsSteadySection router s t = record {
        area = refl;
        lsas = of_area router head.id w.area olds news (passed (is_section (Area area)) (lists_of d) t found_new) steady;
      } in
      let all : AreSteady router (w.low ++ s ∷ w.high) (w.low ++ t ∷ w.high) =
      one_changed (IsSteadySection router) (section_same router) w.low w.high s t one in
      let changed : AreSteady router (lists_of (put d slot (Some before))) (lists_of d) =
      subst (λ (db : Lists). AreSteady router db (lists_of d)) (sym w.after)
      (subst (λ (db : Lists). AreSteady router (w.low ++ s ∷ w.high) db) (sym w.before) all) in
      table_stays router (lists_of (put d slot (Some before))) (lists_of d) was is changed

  -- in an area that the router is not attached to
  pub elsewhere_unchanged : is_attached (lists_of d) area router ≡ false → IsElsewhere router before after
      → table_in (lists_of d) router ≡ table_in (lists_of (put d slot (Some before))) router
  elsewhere_unchanged apart change =
      let elsewhere = one_changed (IsElsewhere router) (λ lsa. inl refl) front back before after change in
      let live : has_live_router_lsa router news ≡ false =
      sym (ap (λ (o : Option SectionLsas). has_live_router_lsa router (lsas_or_none o)) found_new) ∙ apart in
      area_unchanged (inr (sym (elsewhere_live router olds news elsewhere) ∙ live, elsewhere))

  -- over links that are slack by the router's tree
  pub steady_unchanged : (trees : KeptTreesValue) (kept : AreaTreesValue) (t : TreeIn) → AreOfDatabase (lists_of (put d slot (Some before))) trees
      → trees_at trees area ≡ Some kept → IsOf kept.graph router t → IsSteadyLsa (distances_by t) before after
      → table_in (lists_of d) router ≡ table_in (lists_of (put d slot (Some before))) router
  steady_unchanged trees kept t all found of steady =
      let there : List (List ℕ) = lsas_of (Area area) (lists_of (put d slot (Some before))) in
      let here : IsAreaOf there kept = if_found (λ (k : AreaTreesValue). IsAreaOf there k) (trees_at trees area) kept found (all.areas area) in
      let whole : IsGraphOf olds kept.graph = subst (λ (o : Option SectionLsas). IsGraphOf (lsas_or_none o) kept.graph) found_old here.graph in
      let distances : distances_by t ≡ distances_from router olds = tree_distances olds kept.graph router t whole of in
      let changes : IsSteadyLsa (distances_from router olds) before after =
      subst (λ (distance : DistanceOf). IsSteadyLsa distance before after) distances steady in
      area_unchanged (inl (one_changed _ (λ lsa. inl refl) front back before after (inr changes)))

  -- where the cost of one interface is changed
  pub cost_changed : (change : CostChange) → IsChangedLsa change before after → IsCostChange area change (lists_of (put d slot (Some before))) (lists_of d)
  cost_changed change one =
      let were : AreOfArea olds = subst (λ (o : Option SectionLsas). AreOfArea (lsas_or_none o)) found_old
      (are_of_area area (lists_of (put d slot (Some before))) was) in
      let accepted : IsAccepted before = All-contains IsAccepted olds before were.accepted
      (Contains-from_In olds before (In-right front (before ∷ back) before (inl refl))) in
      subst (λ (o : Option SectionLsas). AreChanged change (lsas_or_none o) (lsas_of (Area area) (lists_of d))) (sym found_old)
      (subst (λ (o : Option SectionLsas). AreChanged change olds (lsas_or_none o)) (sym found_new)
      (cost_changed_lsas change before after one accepted front back were))
