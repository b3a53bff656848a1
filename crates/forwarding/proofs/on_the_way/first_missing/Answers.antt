use Rattle.std.proofs.Common.{◌∙◌, List, ap, sym}
use Rattle.std.proofs.lemmas.List.{take_all}
use Rattle.std.specs.List.{find}
use Rattle.lsa_codec.specs.declared.address.RouterId.{RouterId}
use Rattle.forwarding.specs.steps.OnTheWay.{is_missing}
use Rattle.forwarding.proofs.Insertions.{first_found, none_more}
use Rattle.forwarding.proofs.on_the_way.first_missing.Goals as goal

abbrev no_router : RouterId
no_router = record { 0 = 0 }

pub loop-router-preserved : goal.loop-router-preserved
loop-router-preserved g c =
    none_more (is_missing c.args.attached.now c.args.graph.now) c.deref-router-items.result.now c.loop-router.router-index no_router
    c.loop-router-test.true c.loop-router.invariant (sym c.is_missing.ensures ∙ c.if-is_missing.false)

pub returns-then-is_missing : goal.returns-then-is_missing
returns-then-is_missing g c =
    let missing = is_missing c.args.attached.now c.args.graph.now in (
      c.in_ok-reached.reached.items,
      c.in_ok-reached.ensures,
      sym (first_found missing c.deref-router-items.result.now c.loop-router.router-index no_router c.loop-router-test.true c.loop-router.invariant
          (sym c.is_missing.ensures ∙ c.if-is_missing.true))
          ∙ ap (λ (xs : List RouterId). find missing xs) c.deref-router-items.ensures.value,
    )

pub returns : goal.returns
returns g c =
    let missing = is_missing c.args.attached.now c.args.graph.now in (
      c.in_ok-reached.reached.items,
      c.in_ok-reached.ensures,
      sym c.loop-router.invariant
          ∙ ap (λ (xs : List RouterId). find missing xs)
          (take_all c.loop-router.router-index c.deref-router-items.result.now c.loop-router-test.false ∙ c.deref-router-items.ensures.value),
    )
