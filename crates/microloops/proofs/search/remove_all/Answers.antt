use Rattle.std.proofs.Common.{◌∙◌, List, ap}
use Rattle.std.specs.Prelude.{◌&&◌, not}
use Rattle.std.specs.BTreeSet.{contains}
use Rattle.std.specs.List.{list_any}
use Rattle.std.specs.Ordering.{eq_by_cmp}
use Rattle.std.proofs.lemmas.List.{take_all}
use Rattle.lsa_codec.specs.Order.{router_cmp}
use Rattle.lsa_codec.specs.declared.address.RouterId.{RouterId}
use Rattle.microloops.proofs.Members.{none_removed, one_removed}
use Rattle.microloops.proofs.search.remove_all.Goals as goal

abbrev no_router : RouterId
no_router = record { 0 = 0 }

pub loop-router-init : goal.loop-router-init
loop-router-init g c = λ v. none_removed (contains router_cmp c.args.set.now v)

pub loop-router-preserved : goal.loop-router-preserved
loop-router-preserved g c =
    one_removed c.args.set.now c.loop-router.set c.remove.new.self c.args.routers.now c.loop-router.router-index no_router c.loop-router-test.true
    c.loop-router.invariant c.remove.ensures.updates

pub returns : goal.returns
returns g c = λ v.
    c.loop-router.invariant v
    ∙ ap (λ (rs : List RouterId). contains router_cmp c.args.set.now v && not (list_any (eq_by_cmp router_cmp v) rs))
    (take_all c.loop-router.router-index c.args.routers.now c.loop-router-test.false)
