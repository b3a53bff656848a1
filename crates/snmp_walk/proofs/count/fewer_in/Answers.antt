use Rattle.std.proofs.Common.{ap, ◌∙◌}
use Rattle.std.specs.List.{filter_map}
use Rattle.std.proofs.lemmas.Result.{IfOk-weaker}
use Rattle.snmp_walk.specs.Counts.{fewer_by, number_among}
use Rattle.snmp_walk.proofs.count.fewer_in.Goals as goal

pub returns : goal.returns
returns g c =
    IfOk-weaker c.findings_by.result _ _
    (λ found h. record {
      rows = c.in_ok-rows.rows.items;
      once = c.in_ok-rows.ensures;
      whole = h
          ∙ (λ i. filter_map (fewer_by (λ counted. (c.in_ok-numbers.ensures counted ∙ ap (λ rows. number_among rows counted) c.deref.ensures.value) i)) c.args.parsed.now);
    })
    c.findings_by.ensures
