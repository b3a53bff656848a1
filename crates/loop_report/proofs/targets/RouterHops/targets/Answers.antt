use Rattle.std.proofs.Common.{◌≡◌, ◌∙◌, sym, ap, subst}
use Rattle.std.proofs.lemmas.Bool.{OnTrue_at}
use Rattle.std.proofs.lemmas.List.Elements.{All-get_or, All-same}
use Rattle.next_hops.specs.declared.hop.Hop.{Hop}
use Rattle.hop_ends.specs.Owners.{targets_of}
use Rattle.loop_report.specs.steps.Targets.{AreTargets, RouterHopsValue, TargetsValue}
use Rattle.loop_report.proofs.targets.RouterHops.targets.Goals as goal

pub returns-then-is_same : goal.returns-then-is_same
returns-then-is_same g c = λ db are.
    let router = c.args.self.now.router in
    let at = subst (λ (t : TargetsValue). AreTargets db router t) (sym (c.known.view_is ∙ c.known-item.is))
    (All-get_or (AreTargets db router) c.deref-known-items.result.now c.loop-known.known-index c.known-item.result c.loop-known-test.true
    (All-same (AreTargets db router) _ _ (c.deref-known-items.ensures.value ∙ ap (λ (h : RouterHopsValue). h.hops) c.self.view_is) are)) in
    c.deref.ensures.value ∙ at ∙ ap (λ (hop : Hop). targets_of db router hop) (OnTrue_at c.if-is_same.true c.is_same.ensures)
