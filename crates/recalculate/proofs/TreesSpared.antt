-- Which trees of areas are kept, and which stay those of the database after edits.
use Rattle.std.proofs.Common.{◌≡◌, Bool, true, false, not, cond, List, [], ◌∷◌, filter, Option, Some, None, IfSome, is_some, refl, sym, ap, ◌∙◌, subst}
use Rattle.std.specs.Prelude.{◌||◌, MatchOption}
use Rattle.std.specs.Cmp.{Equal-is}
use Rattle.std.specs.List.{list_any}
use Rattle.std.specs.Map.{keys_of, lookup, remove_entry}
use Rattle.std.specs.Option.{option_map_or}
use Rattle.std.specs.Ordering.{eq_by_cmp}
use Rattle.std.proofs.lemmas.Map.Entries.{lookup-filter-keys}
use Rattle.lsa_codec.specs.declared.address.AreaId.{AreaId}
use Rattle.lsa_codec.specs.declared.address.RouterId.{RouterId}
use Rattle.lsdb.specs.declared.section.Section.TheVariants.{Area}
use Rattle.lsdb.specs.Lists.{Lists, lsas_of}
use Rattle.lsa_codec.specs.Order.{area_cmp, router_cmp}
use Rattle.lsa_codec.proofs.OrderLemmas.{area_exact}
use Rattle.edit_history.specs.Effect.{graph_lsas}
use Rattle.routing_table.specs.AreaTrees.{AreaTreesValue, IsAreaOf, RouterTreeValue, has_tree}
use Rattle.routing_table.specs.AreasTrees.{AreasTrees, KeptTreesValue, AreAreasOf, at_area, routers_by, routers_of, trees_in, trees_of}
use Rattle.routing_table.specs.KeptTrees.{KeptRouters, is_kept, less_touched}
use Rattle.unchanged_tables.specs.declared.cost_changes.AreaChange.{AreaChange}
use Rattle.area_routes.proofs.SameGraphLemmas.{same_graph, same_stub_links}

-- ---- what is shown of the trees

any_key : (router : RouterId) (trees : List (RouterId × RouterTreeValue))
    → list_any (eq_by_cmp router_cmp router) (keys_of trees) ≡ is_some (lookup (eq_by_cmp router_cmp router) trees)
any_key router [] = refl
any_key router (t ∷ trees) = by (eq_by_cmp router_cmp router t.0) (any_key router trees)
  where
    by : (b : Bool) → list_any (eq_by_cmp router_cmp router) (keys_of trees) ≡ is_some (lookup (eq_by_cmp router_cmp router) trees)
        → (b || list_any (eq_by_cmp router_cmp router) (keys_of trees)) ≡ is_some (cond b (Some t.1) (lookup (eq_by_cmp router_cmp router) trees))
    by true rest = refl
    by false rest = rest

reported_at : (areas : AreasTrees) (area : AreaId) (router : RouterId) → is_kept (routers_by areas) area router ≡ trees_of areas area router
reported_at [] area router = refl
reported_at (a ∷ areas) area router = by (eq_by_cmp area_cmp area a.0) (reported_at areas area router)
  where
    any_of : List RouterId → Bool
    any_of routers = list_any (eq_by_cmp router_cmp router) routers

    has : AreaTreesValue → Bool
    has kept = has_tree kept router

    by : (b : Bool) → is_kept (routers_by areas) area router ≡ trees_of areas area router
        → option_map_or any_of (cond b (Some (keys_of a.1.trees)) (lookup (eq_by_cmp area_cmp area) (routers_by areas))) false
        ≡ option_map_or has (cond b (Some a.1) (lookup (eq_by_cmp area_cmp area) areas)) false
    by true rest = any_key router a.1.trees
    by false rest = rest

pub reported : (kept : KeptTreesValue) → is_kept (routers_of kept) ≡ trees_in kept
reported kept = λ i area router. reported_at kept.areas area router i

-- ---- the trees of touched areas go

abbrev pub untouched : (AreaId → Bool) → AreasTrees → AreasTrees
untouched is_touched areas = filter (λ a. not (is_touched a.0)) areas

pub reported_untouched : (is_touched : AreaId → Bool) (areas : AreasTrees) → routers_by (untouched is_touched areas) ≡ less_touched is_touched (routers_by areas)
reported_untouched is_touched [] = refl
reported_untouched is_touched (a ∷ areas) = by (is_touched a.0) (reported_untouched is_touched areas)
  where
    by : (b : Bool) → routers_by (untouched is_touched areas) ≡ less_touched is_touched (routers_by areas)
        → routers_by (cond (not b) (a ∷ untouched is_touched areas) (untouched is_touched areas))
        ≡ cond (not b) ((a.0, keys_of a.1.trees) ∷ less_touched is_touched (routers_by areas)) (less_touched is_touched (routers_by areas))
    by true rest = rest
    by false rest = ap (λ (l : KeptRouters). (a.0, keys_of a.1.trees) ∷ l) rest

-- one of them may have gone before
pub untouched_less : (is_touched : AreaId → Bool) (area : AreaId) (areas : AreasTrees) → is_touched area ≡ true
    → untouched is_touched (remove_entry (eq_by_cmp area_cmp area) areas) ≡ untouched is_touched areas
untouched_less is_touched area [] touched = refl
untouched_less is_touched area (a ∷ areas) touched = by (eq_by_cmp area_cmp area a.0) refl (untouched_less is_touched area areas touched)
  where
    gone : is_touched a.0 ≡ true → untouched is_touched (a ∷ areas) ≡ untouched is_touched areas
    gone e = ap (λ (b : Bool). cond (not b) (a ∷ untouched is_touched areas) (untouched is_touched areas)) e

    by : (b : Bool) → eq_by_cmp area_cmp area a.0 ≡ b
        → untouched is_touched (remove_entry (eq_by_cmp area_cmp area) areas) ≡ untouched is_touched areas
        → untouched is_touched (cond b areas (a ∷ remove_entry (eq_by_cmp area_cmp area) areas)) ≡ untouched is_touched (a ∷ areas)
    by true e rest = sym (gone (ap is_touched (sym (area_exact area a.0 ((Equal-is (area_cmp area a.0)).0 e))) ∙ touched))
    by false e rest = ap (λ (l : AreasTrees). cond (not (is_touched a.0)) (a ∷ l) l) rest

-- as the one that a change touches
pub untouched_changed : (is_touched : AreaId → Bool) (change : Option AreaChange) (old new : AreasTrees)
    → MatchOption change (new ≡ old) (λ made. new ≡ remove_entry (eq_by_cmp area_cmp made.area) old)
    → IfSome change (λ made. is_touched made.area ≡ true) → untouched is_touched new ≡ untouched is_touched old
untouched_changed is_touched None old new is touched = ap (untouched is_touched) is
untouched_changed is_touched (Some made) old new is touched = ap (untouched is_touched) is ∙ untouched_less is_touched made.area old touched

module _ (db after : Lists) (is_touched : AreaId → Bool) (stay : (area : AreaId) → is_touched area ≡ false → graph_lsas area after ≡ graph_lsas area db) where
  of_area : (area : AreaId) (o : Option AreaTreesValue) → is_touched area ≡ false → IfSome o (IsAreaOf (lsas_of (Area area) db))
      → IfSome o (IsAreaOf (lsas_of (Area area) after))
  of_area area None apart h = tt
  of_area area (Some kept) apart h = record {
    graph = same_graph (lsas_of (Area area) db) (lsas_of (Area area) after) (sym (stay area apart)) kept.graph h.graph;
    stubs = same_stub_links (lsas_of (Area area) db) (lsas_of (Area area) after) (sym (stay area apart)) kept.stubs h.stubs;
  }

  pub untouched_stay : (areas : AreasTrees) → AreAreasOf db areas → AreAreasOf after (untouched is_touched areas)
  untouched_stay areas all area = by (is_touched area) refl
    where
      keeps : (b : Bool) → is_touched area ≡ b → at_area (untouched is_touched areas) area ≡ cond (not b) (at_area areas area) None
      keeps b e =
          lookup-filter-keys (eq_by_cmp area_cmp area) (λ a. not (is_touched a)) (not b)
          (λ a same. ap (λ x. not (is_touched x)) (sym (area_exact area a ((Equal-is (area_cmp area a)).0 same))) ∙ ap not e) areas

      by : (b : Bool) → is_touched area ≡ b → IfSome (at_area (untouched is_touched areas) area) (IsAreaOf (lsas_of (Area area) after))
      by true e = subst (λ o. IfSome o (IsAreaOf (lsas_of (Area area) after))) (sym (keeps true e)) tt
      by false e = subst (λ o. IfSome o (IsAreaOf (lsas_of (Area area) after)))
          (sym (keeps false e)) (of_area area (at_area areas area) e (all area))
