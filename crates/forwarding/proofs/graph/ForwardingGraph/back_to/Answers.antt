use Rattle.std.proofs.Common.{◌∙◌, [], ◌∷◌, ◌++◌, List, take, get_or, sym, ap, subst}
use Rattle.std.proofs.lemmas.Bool.{false≢true}
use Rattle.std.proofs.lemmas.List.{take_all, take_more}
use Rattle.lsa_codec.specs.declared.address.RouterId.{RouterId}
use Rattle.forwarding.specs.steps.Looping.{AreBack}
use Rattle.forwarding.proofs.WaysBack.{back_no, back_yes}
use Rattle.forwarding.proofs.graph.ForwardingGraph.back_to.Goals as goal
use Rattle.forwarding.proofs.graph.ForwardingGraph.back_to.Goals.{then-branch+in_ok-push, else-branch}

abbrev no_router : RouterId
no_router = record { 0 = 0 }

pub loop-other-preserved : goal.loop-other-preserved
loop-other-preserved g c =
    let graph = c.args.self.now in
    let routers = c.args.routers.now in
    let i = c.loop-other.other-index in
    let other = get_or routers i no_router in
    let found = c.loop-other.found.items in
    subst (λ (xs : List RouterId). AreBack graph c.args.router xs c.if-branch.found.items) (sym (take_more routers i no_router c.loop-other-test.true))
    (elim c.if-branch.branch [
      | then-branch+in_ok-push w ↦
          subst (λ (fs : List RouterId). AreBack graph c.args.router (take i routers ++ other ∷ []) fs)
          (sym (ap (λ v. v.items) w.found-is ∙ w.in_ok-push.ensures.items))
          (back_yes graph c.args.router (take i routers) found c.loop-other.invariant other (c.in_ok-reaches.ensures.0 w.if-branch.true))
      | else-branch w ↦
          subst (λ (fs : List RouterId). AreBack graph c.args.router (take i routers ++ other ∷ []) fs)
          (sym (ap (λ v. v.items) w.found-is))
          (back_no graph c.args.router (take i routers) found c.loop-other.invariant other
          (λ walk. false≢true (sym w.if-branch.false ∙ c.in_ok-reaches.ensures.1 walk)))
    ])

pub returns : goal.returns
returns g c =
    subst (λ (xs : List RouterId). AreBack c.args.self.now c.args.router xs c.loop-other.found.items)
    (take_all c.loop-other.other-index c.args.routers.now c.loop-other-test.false) c.loop-other.invariant
