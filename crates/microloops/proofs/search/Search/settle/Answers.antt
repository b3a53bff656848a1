use Rattle.std.proofs.Common.{◌≡◌, ◌∙◌, List, None, Some, cond, sym, ap, subst}
use Rattle.std.specs.Prelude.{◌&&◌, not, reverse}
use Rattle.std.specs.BTreeMap.{is_at}
use Rattle.std.specs.BTreeSet.{contains}
use Rattle.std.specs.List.{list_any, slice_get}
use Rattle.std.specs.List.Sorted.{IsStrictlySortedBy}
use Rattle.std.specs.Ordering.{eq_by_cmp}
use Rattle.lsa_codec.specs.Order.{router_cmp}
use Rattle.lsa_codec.specs.declared.address.RouterId.{RouterId}
use Rattle.microloops.specs.steps.Groups.{GroupValue}
use Rattle.microloops.specs.steps.Searching.{IsSearch, SearchValue, loop_at, with_last}
use Rattle.microloops.proofs.Loops.{sorted_less}
use Rattle.microloops.proofs.Settling.{no_cycle, no_head, no_routers, settled_alone, settled_loop}
use Rattle.microloops.proofs.Members.{removed_keys, state}
use Rattle.microloops.proofs.search.Search.settle.Goals as goal

pub returns-then-not-is_loop-clause-search : goal.returns-then-not-is_loop-clause-search
returns-then-not-is_loop-clause-search g c = λ next is.
    let s = state c.self.inside.unseen c.self.inside.on_path c.self.inside.path.items c.self.inside.loops.entries in
    let before = subst (λ (x : SearchValue). IsSearch next None (with_last c.args.last x)) (sym c.self.view_is) is in
    let removed = removed_keys c.self.inside.on_path c.remove_all.new.set c.as_slice.result.now c.args.last.routers.keys
    (c.as_slice.ensures ∙ c.in_ok-found.ensures.routers ∙ ap (λ (l : GroupValue). l.routers.keys) c.last.view_is) c.remove_all.ensures in
    settled_alone next s c.args.last c.remove_all.new.set c.requires removed before
    (no_cycle next s c.args.last c.remove_all.new.set c.requires removed before (sym (ap (λ (l : GroupValue). l.is_loop) c.last.view_is) ∙ c.if-not-is_loop.true))

pub returns-in_default-clause-search : goal.returns-in_default-clause-search
returns-in_default-clause-search g c = λ next is.
    let s = state c.self.inside.unseen c.self.inside.on_path c.self.inside.path.items c.self.inside.loops.entries in
    let before = subst (λ (x : SearchValue). IsSearch next None (with_last c.args.last x)) (sym c.self.view_is) is in
    let removed = removed_keys c.self.inside.on_path c.remove_all.new.set c.as_slice.result.now c.args.last.routers.keys
    (c.as_slice.ensures ∙ c.in_ok-found.ensures.routers ∙ ap (λ (l : GroupValue). l.routers.keys) c.last.view_is) c.remove_all.ensures in
    settled_alone next s c.args.last c.remove_all.new.set c.requires removed before
    (no_routers next s c.args.last c.remove_all.new.set c.requires removed before
    (no_head c.args.last.routers.keys (subst (λ (ks : List RouterId). slice_get ks 0 ≡ None)
    (c.as_slice-2.ensures ∙ c.in_ok-found.ensures.routers ∙ ap (λ (l : GroupValue). l.routers.keys) c.last.view_is)
    (sym c.first.ensures.value ∙ sym c.copied.ensures ∙ c.in_default.is))))

pub returns-clause-search : goal.returns-clause-search
returns-clause-search g c = λ next is.
    let s = state c.self.inside.unseen c.self.inside.on_path c.self.inside.path.items c.self.inside.loops.entries in
    let before = subst (λ (x : SearchValue). IsSearch next None (with_last c.args.last x)) (sym c.self.view_is) is in
    let keys : c.in_ok-found.found ≡ c.args.last.routers.keys = c.in_ok-found.ensures.routers ∙ ap (λ (l : GroupValue). l.routers.keys) c.last.view_is in
    let removed = removed_keys c.self.inside.on_path c.remove_all.new.set c.as_slice.result.now c.args.last.routers.keys
    (c.as_slice.ensures ∙ keys) c.remove_all.ensures in
    settled_loop next s c.args.last c.remove_all.new.set c.requires removed before
    (sym (ap (λ (l : GroupValue). l.is_loop) c.last.view_is) ∙ c.if-not-is_loop.false) c.in-Some.least
    (subst (λ (ks : List RouterId). slice_get ks 0 ≡ Some c.in-Some.least) (c.as_slice-2.ensures ∙ keys) (sym c.first.ensures.value ∙ sym c.copied.ensures ∙ c.in-Some.is))
    (sorted_less c.args.last.routers.keys (subst (λ (ks : List RouterId). IsStrictlySortedBy router_cmp ks) keys c.in_ok-found.ensures.sorted))
    c.insert.new.self.entries c.in_ok-insert.ensures.ordered (λ v.
    c.in_ok-insert.ensures.updates.0 v
    ∙ ap (λ (ks : List RouterId). cond (is_at (router_cmp c.in-Some.least) v) (Some ks) (loop_at c.self.inside.loops.entries v)) keys)
