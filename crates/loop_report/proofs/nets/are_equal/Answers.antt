use Rattle.std.proofs.Common.{◌∙◌, sym}
use Rattle.std.proofs.lemmas.Bool.{OnTrue_from}
use Rattle.loop_report.proofs.Again.{equal_lists}
use Rattle.loop_report.proofs.nets.are_equal.Goals as goal

pub returns : goal.returns
returns c =
    OnTrue_from c.eq.result _ (λ same. equal_lists _ c.prefix_equality.ensures c.args.nets.now c.args.others.now (sym c.eq.ensures ∙ same))
