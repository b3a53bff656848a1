use Rattle.std.proofs.Common.{◌++◌, ◌∙◌}
use Rattle.std.proofs.lemmas.Result.{on_ok_weaker}
use Rattle.lsa_changes.specs.declared.field.Field.TheVariants.{Metric}
use Rattle.lsa_changes.specs.Changes.{field_changes, mask_changes}
use Rattle.lsa_changes.proofs.ByType.{more}
use Rattle.lsa_changes.proofs.change.push_summary.Goals as goal

pub returns : goal.returns
returns g c =
    let old = c.args.changes.now.items in
    let masks = mask_changes c.net.result c.net-2.result in
    let metrics = field_changes Metric c.metric.result c.metric-2.result in
    on_ok_weaker c.push_field.result
    (λ pushed. more old masks metrics c.push_masks.new.changes.items c.push_field.new.changes.items c.in_ok-push_masks.ensures pushed
    ∙ (λ i. old ++ (mask_changes (c.net.ensures i) (c.net-2.ensures i) ++ field_changes Metric (c.metric.ensures i) (c.metric-2.ensures i))))
    c.push_field.ensures
