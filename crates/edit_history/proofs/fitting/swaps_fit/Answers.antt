use Rattle.std.proofs.Common.{Bool, ◌&&◌, map, sym, ap, ◌∙◌}
use Rattle.edit_history.specs.Fitting.{are_apart}
use Rattle.edit_history.specs.steps.Plans.{planned_change}
use Rattle.edit_history.proofs.FittingLoops.{both_tested}
use Rattle.edit_history.proofs.fitting.swaps_fit.Goals as goal

pub returns-then-all_fit : goal.returns-then-all_fit
returns-then-all_fit g c =
    c.are_apart.ensures
    ∙ sym (ap (λ (b : Bool). b && are_apart (map (planned_change c.args.database.now) c.args.swaps.now)) (sym c.all_fit.ensures ∙ c.if-all_fit.true))
    ∙ both_tested c.args.database.now c.args.swaps.now

pub returns-else-all_fit : goal.returns-else-all_fit
returns-else-all_fit g c =
    c.if-all_fit.false
    ∙ sym (ap (λ (b : Bool). b && are_apart (map (planned_change c.args.database.now) c.args.swaps.now)) (sym c.all_fit.ensures ∙ c.if-all_fit.false))
    ∙ both_tested c.args.database.now c.args.swaps.now
