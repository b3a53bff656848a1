use Rattle.std.proofs.Common.{◌∙◌, sym}
use Rattle.table_report.proofs.Sameness.{same_items}
use Rattle.table_report.proofs.compare.are_same_hops.Goals as goal

pub returns : goal.returns
returns c = λ same. same_items _ c.hop_equality.ensures c.args.before.now c.args.now.now (sym c.eq.ensures ∙ same)
