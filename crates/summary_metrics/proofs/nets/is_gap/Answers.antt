use Rattle.lsa_codec.proofs.OrderLemmas.{prefix_total}
use Rattle.summary_metrics.proofs.NearPlaces.{between, on_true}
use Rattle.summary_metrics.proofs.nets.is_gap.Goals as goal

pub returns-then-is_after : goal.returns-then-is_after
returns-then-is_after c =
    on_true c.is_before.result c.is_before.ensures
    (between prefix_total c.args.net c.args.nets.now c.args.place c.requires c.if-is_after.ensures.0 c.if-is_after.ensures.1)
