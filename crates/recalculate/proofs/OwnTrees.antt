-- Trees of a router that do not come by tables of others, nor by edits.
use Rattle.std.proofs.Common.{◌≡◌, ◌≢◌, Bool, true, false, not, cond, List, [], ◌∷◌, Option, None, refl, sym, ap, ◌∙◌}
use Rattle.std.specs.Cmp.{Equal-is}
use Rattle.std.specs.List.{list_any}
use Rattle.std.specs.Map.{lookup}
use Rattle.std.specs.Option.{option_map_or}
use Rattle.std.specs.Ordering.{eq_by_cmp}
use Rattle.std.proofs.lemmas.Map.Entries.{lookup-filter-keys}
use Rattle.lsa_codec.specs.declared.address.AreaId.{AreaId}
use Rattle.lsa_codec.specs.declared.address.RouterId.{RouterId}
use Rattle.lsa_codec.specs.Order.{area_cmp, router_cmp}
use Rattle.lsa_codec.proofs.OrderLemmas.{area_exact}
use Rattle.lsdb.specs.Lists.{AreaHead, Lists}
use Rattle.edit_history.specs.Session.{Request}
use Rattle.routing_table.specs.KeptTrees.{KeptRouters, TreeSet, areas_without_tree, is_kept, less_touched}
use Rattle.recalculate.specs.Asking.{GainsTrees, HasNoTree, NoTreeCame}
use Rattle.recalculate.specs.Calls.{CarriedOut, areas_lacking, areas_of_router, request_touches}
use Rattle.recalculate.specs.Planning.{PlannerValue}

pub others_stay_away : (db : Lists) (p q : PlannerValue) (asked router : RouterId) → asked ≢ router → GainsTrees db asked p.kept q.kept
    → NoTreeCame router p q
others_stay_away db p q asked router apart gains area lacked = by (is_kept q.kept area router) refl
  where
    by : (b : Bool) → is_kept q.kept area router ≡ b → b ≡ false
    by true e = absurd (apart (sym (gains.no_more area router e lacked).0))
    by false e = refl

none_back : (is_touched : AreaId → Bool) (kept : KeptRouters) (area : AreaId) (router : RouterId) → is_kept kept area router ≡ false
    → is_kept (less_touched is_touched kept) area router ≡ false
none_back is_touched kept area router lacked = by (is_touched area) refl
  where
    has : Option (List RouterId) → Bool
    has o = option_map_or (list_any (eq_by_cmp router_cmp router)) o false

    found : (b : Bool) → is_touched area ≡ b
        → lookup (eq_by_cmp area_cmp area) (less_touched is_touched kept) ≡ cond (not b) (lookup (eq_by_cmp area_cmp area) kept) None
    found b e =
        lookup-filter-keys (eq_by_cmp area_cmp area) (λ a. not (is_touched a)) (not b)
        (λ a same. ap (λ x. not (is_touched x)) (sym (area_exact area a ((Equal-is (area_cmp area a)).0 same))) ∙ ap not e) kept

    by : (b : Bool) → is_touched area ≡ b → is_kept (less_touched is_touched kept) area router ≡ false
    by true e = ap has (found true e)
    by false e = ap has (found false e) ∙ lacked

pub carried_keeps_away : (request : Request) (p q : PlannerValue) (router : RouterId) → CarriedOut request p q → NoTreeCame router p q
carried_keeps_away request p q router carried area lacked =
    ap (λ (k : KeptRouters). is_kept k area router) carried.kept
    ∙ none_back (request_touches request p.session) p.kept area router lacked

lacks_all : (trees : TreeSet) (router : RouterId) → ((area : AreaId) → trees area router ≡ false) → (areas : List AreaHead)
    → areas_without_tree trees router areas ≡ areas
lacks_all trees router none [] = refl
lacks_all trees router none (area ∷ areas) =
    ap (λ b. cond (not b) (area ∷ areas_without_tree trees router areas) (areas_without_tree trees router areas)) (none (record { 0 = area.id }))
    ∙ ap (λ (l : List AreaHead). area ∷ l) (lacks_all trees router none areas)

pub none_yet : (p : PlannerValue) (router : RouterId) → HasNoTree router p → areas_lacking router p ≡ areas_of_router router p
none_yet p router none = lacks_all (is_kept p.kept) router none (areas_of_router router p)
