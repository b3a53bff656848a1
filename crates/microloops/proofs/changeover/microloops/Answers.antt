use Rattle.std.proofs.Common.{◌≡◌, ◌+◌, List, Option, ap, length, subst, arith}
use Rattle.std.specs.BTreeSet.{BTreeSet}
use Rattle.std.specs.List.{Contains}
use Rattle.std.proofs.lemmas.Result.{IfOk-weaker}
use Rattle.lsa_codec.specs.declared.address.RouterId.{RouterId}
use Rattle.microloops.specs.Changeover.{AreAllLoops, AreMicroloops, next_in_either, routers_in_either}
use Rattle.microloops.specs.steps.Searching.{IsDone, IsFound, IsNext}
use Rattle.microloops.proofs.EitherGraph.{has_either, leads}
use Rattle.microloops.proofs.changeover.microloops.Goals as goal

pub routers-init : goal.routers-init
routers-init g c =
    c.new-search.ensures (next_in_either c.args.before.now c.args.after.now)
    (has_either c.args.before.now c.args.after.now c.in_ok-routers.routers c.in_ok-routers.ensures.before c.in_ok-routers.ensures.after)

pub routers-preserved : goal.routers-preserved
routers-preserved g c =
    let next = next_in_either c.args.before.now c.args.after.now in
    c.in_ok-begin.ensures.search next c.in_ok-targets.ensures
    (subst (λ (o : Option RouterId). IsFound next o c.next_router.new.self) c.in-Some.is (c.in_ok-router.ensures.found next c.routers.invariant))

pub routers-smaller : goal.routers-smaller
routers-smaller g c =
    let next = next_in_either c.args.before.now c.args.after.now in
    let found : IsNext next c.in-Some.router c.next_router.new.self =
    subst (λ (o : Option RouterId). IsFound next o c.next_router.new.self) c.in-Some.is (c.in_ok-router.ensures.found next c.routers.invariant) in
    let fewer : length c.begin.new.self.unseen.keys + 1 ≡ length c.next_router.new.self.unseen.keys = c.in_ok-begin.ensures.fewer found.unseen in
    let same : length c.next_router.new.self.unseen.keys ≡ length c.routers.search.unseen.keys =
    ap (λ (u : BTreeSet RouterId). length u.keys) c.in_ok-router.ensures.unseen in
    omega arith

pub returns : goal.returns
returns g c =
    let next = next_in_either c.args.before.now c.args.after.now in
    IfOk-weaker c.into_loops.result
    (λ loops. (next : RouterId → List RouterId) (routers : List RouterId) → ((v w : RouterId) → Contains (next v) w → Contains routers v)
    → IsDone next c.next_router.new.self → AreAllLoops next routers loops.items)
    (λ loops. AreMicroloops c.args.before.now c.args.after.now loops.items)
    (λ loops all. all next (routers_in_either c.args.before.now c.args.after.now) (leads c.args.before.now c.args.after.now)
    (subst (λ (o : Option RouterId). IsFound next o c.next_router.new.self) c.in_default.is (c.in_ok-router.ensures.found next c.routers.invariant)))
    c.into_loops.ensures
