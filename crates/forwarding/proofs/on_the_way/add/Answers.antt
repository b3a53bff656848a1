use Rattle.std.proofs.Common.{◌≡◌, ◌∙◌, Err, List, None, Some, ap, arith, get_or, length, map, rules, subst, sym}
use Rattle.std.specs.List.{find, insert}
use Rattle.std.specs.List.Sorted.{IsBinarySearchResult, IsStrictlySortedBy}
use Rattle.std.specs.Ordering.{eq_by_cmp}
use Rattle.std.proofs.lemmas.List.{get_or_default}
use Rattle.std.proofs.lemmas.List.Sorted.{answers_always}
use Rattle.lsa_codec.specs.Order.{router_cmp}
use Rattle.lsa_codec.specs.declared.address.RouterId.{RouterId}
use Rattle.lsa_codec.proofs.OrderLemmas.{router_total}
use Rattle.lsdb.specs.Slots.{lists_of}
use Rattle.best_ways.proofs.SearchLemmas.{found_at}
use Rattle.forwarding.specs.Graphs.{StepValue, step_at}
use Rattle.forwarding.specs.Matches.{RouterValue}
use Rattle.forwarding.proofs.Insertions.{sorted_inserted}
use Rattle.forwarding.proofs.PartKnown.{as_long, one_known_more}
use Rattle.forwarding.proofs.on_the_way.add.Goals as goal

absent : (s : StepValue) → Some s ≡ None → ⊥
absent s h = cc

pub invariant_of-graph : goal.invariant_of-graph
invariant_of-graph g c =
    let steps = c.graph.inside.steps.items in
    let own : c.in_ok-step.step.router ≡ c.args.router =
    c.in_ok-step.ensures.router ∙ ap (λ (r : RouterValue). r.router) c.in_ok-routes.ensures.routes in
    let at = c.in-Err.ensures.position (λ s. s.router) (answers_always _ _ _ (λ f a r h called. search rules)) in
    let found : IsBinarySearchResult (λ (s : StepValue). router_cmp s.router c.args.router) steps (Err c.in-Err.place) =
    subst (λ (l : List StepValue). IsBinarySearchResult (λ (s : StepValue). router_cmp s.router c.args.router) l (Err c.in-Err.place)) c.deref.ensures.value at in
    subst (λ (l : List StepValue). IsStrictlySortedBy router_cmp (map (λ (s : StepValue). s.router) l)) (sym c.in_ok-insert-in-Err-2.ensures.items)
    (sorted_inserted router_total (λ (s : StepValue). s.router) steps c.in-Err.place c.in_ok-step.step c.graph.invariant
    (subst (λ (r : RouterId). IsBinarySearchResult (λ (s : StepValue). router_cmp s.router r) steps (Err c.in-Err.place)) (sym own) found))

pub returns-clause-part : goal.returns-clause-part
returns-clause-part g c =
    let db = lists_of c.args.database.now in
    one_known_more db c.args.address c.args.routers.now.items c.args.graph.now c.requires.part c.args.router c.in-Err.place
    c.in_ok-routes.routes c.in_ok-step.step c.insert.new.self.items c.insert-in-Err.new.self.items
    c.requires.attached c.requires.missing c.in_ok-routes.ensures.routes (c.in_ok-step.ensures.step db c.requires.graphs)
    c.in_ok-insert-in-Err.ensures.items
    (c.in_ok-insert-in-Err-2.ensures.items ∙ ap (λ (l : List StepValue). insert l c.in-Err.place c.in_ok-step.step) c.graph.view_is)

pub unreachable-requires : goal.unreachable-requires
unreachable-requires g c =
    let at = c.in-Ok.ensures.position (λ s. s.router) (answers_always _ _ _ (λ f a r h called. search rules)) in
    let steps = c.deref.result.now in
    let there = get_or steps c.in-Ok._index c.in_ok-step.step in
    let found = found_at router_total (λ (s : StepValue). s.router) c.args.router steps c.in-Ok._index
    (subst (λ (l : List StepValue). IsStrictlySortedBy router_cmp (map (λ (s : StepValue). s.router) l)) (sym c.deref.ensures.value) c.graph.invariant)
    c.in-Ok.ensures.bound at there (sym (get_or_default steps c.in-Ok._index there c.in_ok-step.step c.in-Ok.ensures.bound)) in
    let none : find (λ (s : StepValue). eq_by_cmp router_cmp c.args.router s.router) steps ≡ None =
    ap (λ (l : List StepValue). step_at l c.args.router) (c.deref.ensures.value ∙ c.graph.view_is) ∙ c.requires.missing in
    absent there (found ∙ none)

pub insert-requires : goal.insert-requires
insert-requires g c =
    let long = as_long (lists_of c.args.database.now) c.args.address c.args.routers.now.items c.args.graph.now c.requires.part in
    let same = ap (λ (l : List StepValue). length l) (c.deref.ensures.value ∙ c.graph.view_is) in
    omega (arith, c.in-Err.ensures.bound, c.args.routers.now.ok.0)
