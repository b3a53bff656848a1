use Rattle.std.proofs.Common.{◌≡◌, ◌++◌, Some, ap, ◌∙◌}
use Rattle.std.proofs.lemmas.Result.{on_ok_weaker}
use Rattle.lsa_changes.specs.declared.field.Field.TheVariants.{Forward, Metric, MetricType, Tag}
use Rattle.lsa_changes.specs.Changes.{field_changes, mask_changes}
use Rattle.lsa_changes.specs.Fields.{type_number, type_of}
use Rattle.lsa_changes.proofs.ByType.{more}
use Rattle.lsa_changes.proofs.change.push_external.Goals as goal

pub returns : goal.returns
returns g c =
    let old = c.args.changes.now.items in
    let masks = mask_changes (Some c.net.result) (Some c.net-2.result) in
    let types = field_changes MetricType c.type_number.result c.type_number-2.result in
    let metrics = field_changes Metric c.metric.result c.metric-2.result in
    let forwards = field_changes Forward c.forward.result.0 c.forward-2.result.0 in
    let tags = field_changes Tag c.tag.result c.tag-2.result in
    let was : c.type_number.result ≡ type_of c.args.before.now = c.type_number.ensures ∙ ap type_number c.is_type2.ensures in
    let is : c.type_number-2.result ≡ type_of c.args.now.now = c.type_number-2.ensures ∙ ap type_number c.is_type2-2.ensures in
    let one = more old masks types c.push_masks.new.changes.items c.push_field.new.changes.items c.in_ok-push_masks.ensures c.in_ok-push_field.ensures in
    let two = more old (masks ++ types) metrics c.push_field.new.changes.items c.push_field-2.new.changes.items one c.in_ok-push_field-2.ensures in
    let three =
    more old (masks ++ types ++ metrics) forwards c.push_field-2.new.changes.items c.push_field-3.new.changes.items two c.in_ok-push_field-3.ensures in
    on_ok_weaker c.push_field-4.result
    (λ pushed. more old (masks ++ types ++ metrics ++ forwards) tags c.push_field-3.new.changes.items c.push_field-4.new.changes.items three pushed
    ∙ (λ i. old ++ (mask_changes (Some (c.net.ensures i)) (Some (c.net-2.ensures i)) ++ field_changes MetricType (was i) (is i)
    ++ field_changes Metric (c.metric.ensures i) (c.metric-2.ensures i) ++ field_changes Forward (c.forward.ensures i) (c.forward-2.ensures i)
    ++ field_changes Tag (c.tag.ensures i) (c.tag-2.ensures i))))
    c.push_field-4.ensures
