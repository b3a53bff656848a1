use Rattle.std.proofs.Common.{◌∙◌, ap}
use Rattle.std.specs.Prelude.{filter}
use Rattle.std.proofs.lemmas.Result.{IfOk-weaker}
use Rattle.audit_topology.specs.Parts.{counts}
use Rattle.audit_topology.proofs.parts.parts_that_count.Goals as goal

pub returns : goal.returns
returns g c =
    IfOk-weaker c.counted.result _ _ (λ found is. is ∙ ap (filter (counts c.args.areas.now)) c.in_ok-parts.ensures) c.counted.ensures
