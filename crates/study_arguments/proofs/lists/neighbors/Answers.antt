use Rattle.std.proofs.Common.{◌==◌, ℕ, List, [], Ok, sym, ap, ◌∙◌}
use Rattle.std.specs.List.{slice_split}
use Rattle.std.proofs.lemmas.Result.{err_from_is_err_and}
use Rattle.lsa_codec.specs.declared.address.RouterId.{RouterId}
use Rattle.network_names.specs.Names.{stands_for}
use Rattle.study_arguments.specs.Lists.{each}
use Rattle.study_arguments.specs.Values.{router_id}
use Rattle.study_arguments.proofs.EachWord.{each_fault, each_last, each_next, prepend}
use Rattle.study_arguments.proofs.lists.neighbors.Goals as goal

abbrev parts : List ℕ → List (List ℕ)
parts word = slice_split (λ b. b == 44) word

pub returns-in_err-router : goal.returns-in_err-router
returns-in_err-router g c =
    let p = err_from_is_err_and c.from_residual.result c.from_residual.ensures.1 in
    rw (p.1, p.2)
    (c.loop-part.invariant
    ∙ each_fault (router_id (stands_for c.args.names.now)) c.loop-part.routers.items (parts c.loop-part.rest.now) c.in-Some.part.now
    (parts c.in-Some.after.now) c.in-Some.ensures.0 _ c.in_err-router.ensures)

pub loop-part-preserved : goal.loop-part-preserved
loop-part-preserved g c =
    c.loop-part.invariant
    ∙ each_next (router_id (stands_for c.args.names.now)) c.loop-part.routers.items (parts c.loop-part.rest.now) c.in-Some.part.now
    (parts c.in-Some.after.now) c.in-Some.ensures.0 c.in_ok-router.router c.in_ok-router.ensures
    ∙ ap (λ (ids : List RouterId). prepend ids (each (router_id (stands_for c.args.names.now)) (parts c.in-Some.after.now))) (sym c.in_ok-push.ensures.items)

pub returns-in_err-last : goal.returns-in_err-last
returns-in_err-last g c =
    let p = err_from_is_err_and c.from_residual-in_err-last.result c.from_residual-in_err-last.ensures.1 in
    rw (p.1, p.2)
    (c.loop-part.invariant
    ∙ each_fault (router_id (stands_for c.args.names.now)) c.loop-part.routers.items (parts c.loop-part.rest.now) c.loop-part.rest.now []
    c.in_default.ensures _ c.in_err-last.ensures)

pub returns : goal.returns
returns g c =
    c.loop-part.invariant
    ∙ each_last (router_id (stands_for c.args.names.now)) c.loop-part.routers.items (parts c.loop-part.rest.now) c.loop-part.rest.now
    c.in_default.ensures c.in_ok-last.last c.in_ok-last.ensures
    ∙ ap (λ (ids : List RouterId). Ok ids) (sym c.in_ok-push-2.ensures.items)
