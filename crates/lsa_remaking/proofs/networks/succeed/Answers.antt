use Rattle.std.proofs.Common.{◌∙◌, List, ℕ, ap, subst, arith, length}
use Rattle.std.proofs.lemmas.Result.{IfOk-weaker, IfErr-weaker}
use Rattle.lsa_remaking.specs.Making.{made, remeasured, IsRemakeFaultOf}
use Rattle.lsa_remaking.specs.Networks.{successor_body}
use Rattle.lsa_remaking.proofs.Bodies.{long_successor}
use Rattle.lsa_remaking.proofs.networks.succeed.Goals as goal

pub remake-requires : goal.remake-requires
remake-requires g c =
    let body = c.deref.ensures.value ∙ c.in_ok-body.ensures ∙ ap (successor_body c.args.router c.args.address c.args.routers.now) c.bytes.ensures.bytes in
    omega (arith, ap length body, long_successor c.args.router c.args.address c.args.routers.now c.args.lsa.now)

pub returns-clause-made : goal.returns-clause-made
returns-clause-made g c =
    let body = c.deref.ensures.value ∙ c.in_ok-body.ensures ∙ ap (successor_body c.args.router c.args.address c.args.routers.now) c.bytes.ensures.bytes in
    IfOk-weaker c.remake.result _ _ (λ new is. is ∙ ap remeasured body) c.remake.ensures.made

pub returns-clause-fault : goal.returns-clause-fault
returns-clause-fault g c =
    let body = c.deref.ensures.value ∙ c.in_ok-body.ensures ∙ ap (successor_body c.args.router c.args.address c.args.routers.now) c.bytes.ensures.bytes in
    IfErr-weaker c.remake.result _ _ (λ fault is. subst (λ (b : List ℕ). IsRemakeFaultOf fault (made b)) body is) c.remake.ensures.fault
