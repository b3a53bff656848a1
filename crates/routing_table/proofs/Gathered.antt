-- Routers in a set, one after another.
use Rattle.std.proofs.Common.{◌≡◌, Bool, true, false, List, [], ◌∷◌, ◌++◌, Option, Some, None, refl, sym, ap, ◌∙◌}
use Rattle.std.specs.Prelude.{◌||◌}
use Rattle.std.specs.BTreeSet.{insert_key}
use Rattle.std.specs.List.{cons_option, list_any}
use Rattle.std.specs.Ordering.{eq_by_cmp}
use Rattle.std.proofs.lemmas.List.{append-nil}
use Rattle.std.proofs.lemmas.List.Folds.{list_any-append}
use Rattle.lsa_codec.specs.declared.address.RouterId.{RouterId}
use Rattle.area_graph.specs.Rising.{rising}
use Rattle.lsa_codec.specs.Order.{router_cmp}
use Rattle.lsa_codec.proofs.OrderLemmas.{router_exact, router_total}
use Rattle.best_ways.proofs.RisingLemmas.{any_insert, any_rising, rising_is, sorted_insert, sorted_rising}

abbrev same : RouterId → RouterId → Bool
same = eq_by_cmp router_cmp

swapped : (a b : Bool) → (a || b) ≡ (b || (a || false))
swapped true true = refl
swapped true false = refl
swapped false true = refl
swapped false false = refl

-- a router that comes last
insert_last : (before : List RouterId) (router : RouterId) → insert_key router_cmp (rising router_cmp before) router ≡ rising router_cmp (before ++ router ∷ [])
insert_last before router =
    rising_is router_total router_exact (insert_key router_cmp (rising router_cmp before) router) (before ++ router ∷ [])
    (sorted_insert router_total (rising router_cmp before) router (sorted_rising router_total before)) (λ q.
    any_insert router_total q (rising router_cmp before) router ∙ ap (λ b. same q router || b) (any_rising router_total q before)
    ∙ swapped (same q router) (list_any (same q) before) ∙ sym (list_any-append (same q) before (router ∷ [])))

pub inserted : (before old new : List RouterId) (router : RouterId) (o : Option RouterId) → o ≡ Some router
    → new ≡ insert_key router_cmp old router → old ≡ rising router_cmp before
    → new ≡ rising router_cmp (before ++ cons_option o [])
inserted before old new router o is made from =
    made ∙ ap (λ l. insert_key router_cmp l router) from ∙ insert_last before router
    ∙ ap (λ (p : Option RouterId). rising router_cmp (before ++ cons_option p [])) (sym is)

pub left_out : (before old : List RouterId) (o : Option RouterId) → o ≡ None
    → old ≡ rising router_cmp before → old ≡ rising router_cmp (before ++ cons_option o [])
left_out before old o is from =
    from ∙ ap (rising router_cmp) (sym (append-nil before)) ∙ ap (λ (p : Option RouterId). rising router_cmp (before ++ cons_option p [])) (sym is)
