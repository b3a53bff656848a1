use Rattle.std.proofs.Common.{◌∙◌, ap}
use Rattle.std.proofs.lemmas.List.{take_all}
use Rattle.audit_areas.specs.Groups.{added, grouped}
use Rattle.audit_areas.proofs.Grouping.{grouped_more}
use Rattle.audit_areas.proofs.groups.grouped.Goals as goal

pub loop-pair-preserved : goal.loop-pair-preserved
loop-pair-preserved g c =
    let same = g.K.PartialEq.eq in
    c.in_ok-add.ensures ∙ ap (λ gs. added same gs c.pair-item.result) c.loop-pair.invariant
    ∙ grouped_more same c.args.pairs.now c.loop-pair.pair-index c.pair-item.result c.loop-pair-test.true c.pair-item.is

pub returns : goal.returns
returns g c =
    c.loop-pair.invariant ∙ ap (grouped g.K.PartialEq.eq) (take_all c.loop-pair.pair-index c.args.pairs.now c.loop-pair-test.false)
