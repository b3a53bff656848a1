use Rattle.std.proofs.Common.{◌≡◌, ◌∙◌, List, Option, None, map, subst, sym, true}
use Rattle.std.specs.List.Sorted.{IsStrictlySortedBy}
use Rattle.lsa_codec.specs.Order.{router_cmp}
use Rattle.lsa_codec.specs.declared.address.RouterId.{RouterId}
use Rattle.lsdb.specs.Slots.{lists_of}
use Rattle.forwarding.specs.Graphs.{StepValue}
use Rattle.forwarding.specs.steps.OnTheWay.{IsFirstMissing, is_among}
use Rattle.forwarding.proofs.Insertions.{none_sorted}
use Rattle.forwarding.proofs.PartKnown.{all_known, first_missing_is, none_known, sorted_known}
use Rattle.forwarding.proofs.Sorted.{sorted_attached}
use Rattle.forwarding.proofs.forwarding.Forwarding.from_router.Goals as goal

pub from_sorted-graph-requires : goal.from_sorted-graph-requires
from_sorted-graph-requires g c =
    subst (λ (l : List StepValue). IsStrictlySortedBy router_cmp (map (λ (s : StepValue). s.router) l)) (sym c.new.ensures.items) (none_sorted router_cmp)

pub routers-init : goal.routers-init
routers-init g c = record {
  part = none_known (lists_of c.args.database.now) c.args.address c.new-routers.result.items c.from_sorted-graph.result
      c.new-routers.ensures.items (c.from_sorted-graph.ensures ∙ c.new.ensures.items);
  basis = c.new-basis.ensures (lists_of c.args.database.now);
}

pub first_missing-requires : goal.first_missing-requires
first_missing-requires g c =
    subst (λ (l : List RouterId). IsStrictlySortedBy router_cmp l) (sym (c.deref.ensures.value ∙ c.in_ok-attached.ensures))
    (sorted_attached (lists_of c.args.database.now))

pub add-requires-clause-attached : goal.add-requires-clause-attached
add-requires-clause-attached g c =
    subst (λ (l : List RouterId). is_among l c.in-Some.router ≡ true) (c.deref.ensures.value ∙ c.in_ok-attached.ensures)
    (first_missing_is c.deref.result.now c.routers.graph c.args.start c.in-Some.router
    (subst (λ (o : Option RouterId). IsFirstMissing c.deref.result.now c.routers.graph c.args.start o) c.in-Some.is c.in_ok-router.ensures)).1

pub add-requires-clause-missing : goal.add-requires-clause-missing
add-requires-clause-missing g c =
    (first_missing_is c.deref.result.now c.routers.graph c.args.start c.in-Some.router
    (subst (λ (o : Option RouterId). IsFirstMissing c.deref.result.now c.routers.graph c.args.start o) c.in-Some.is c.in_ok-router.ensures)).0

pub invariant_of-result : goal.invariant_of-result
invariant_of-result g c =
    sorted_known (lists_of c.args.database.now) c.args.address c.routers.routers.items c.routers.graph c.routers.invariant.part
    (subst (λ (l : List StepValue). IsStrictlySortedBy router_cmp (map (λ (s : StepValue). s.router) l)) c.graph.view_is c.graph.invariant)

pub returns-clause-forwarding : goal.returns-clause-forwarding
returns-clause-forwarding g c =
    let db = lists_of c.args.database.now in
    all_known db c.args.address c.routers.routers.items c.routers.graph c.routers.invariant.part c.args.start
    (subst (λ (l : List RouterId). IsFirstMissing l c.routers.graph c.args.start None) (c.deref.ensures.value ∙ c.in_ok-attached.ensures)
    (subst (λ (o : Option RouterId). IsFirstMissing c.deref.result.now c.routers.graph c.args.start o) c.in_default.is c.in_ok-router.ensures))
    c.in_ok-graphs.graphs c.in_ok-graphs.ensures
