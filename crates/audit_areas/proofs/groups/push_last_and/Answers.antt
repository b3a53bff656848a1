use Rattle.std.proofs.Common.{◌∙◌, ap, refl, sym}
use Rattle.std.proofs.lemmas.Result.{on_ok_weaker}
use Rattle.audit_areas.proofs.Grouping.{pushed_other, pushed_same}
use Rattle.audit_areas.proofs.groups.push_last_and.Goals as goal

pub returns-then-eq : goal.returns-then-eq
returns-then-eq g c =
    pushed_same g.K.PartialEq.eq (λ p. (p.0, p.1.items)) c.args.pair c.args.groups.now.items _ _ (c.args.last.0, c.args.last.1.items)
    c.in_ok-push-2.ensures.items (ap (λ vs. (c.args.last.0, vs)) c.in_ok-push.ensures.items) (sym c.eq.ensures ∙ c.if-eq.true)

pub returns : goal.returns
returns g c =
    on_ok_weaker c.push_new.result
    (λ next. pushed_other g.K.PartialEq.eq (λ p. (p.0, p.1.items)) c.args.pair c.args.groups.now.items _ _ _ (c.args.last.0, c.args.last.1.items)
    c.in_ok-push-3.ensures.items refl next (sym c.eq.ensures ∙ c.if-eq.false))
    c.push_new.ensures
