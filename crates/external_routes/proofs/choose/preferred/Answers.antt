use Rattle.std.proofs.Common.{◌∙◌, ap, sym, Some}
use Rattle.std.specs.Option.{option_copied}
use Rattle.external_routes.specs.Choose.{is_asbr}
use Rattle.external_routes.proofs.First.{first_no, first_yes}
use Rattle.external_routes.proofs.Orders.{preference_total}
use Rattle.external_routes.proofs.choose.preferred.Goals as goal
use Rattle.external_routes.proofs.choose.preferred.Goals.{then-is_asbr, else-is_asbr}

pub loop-entry-preserved : goal.loop-entry-preserved
loop-entry-preserved g c =
    let p = is_asbr c.args.asbr in
    let yes = first_yes preference_total p c.args.entries.now c.loop-entry.entry-index c.entry-item.result
    c.loop-entry-test.true c.entry-item.is (option_copied c.loop-entry.best) c.loop-entry.invariant in
    let no = first_no preference_total p c.args.entries.now c.loop-entry.entry-index c.entry-item.result
    c.loop-entry-test.true c.entry-item.is (option_copied c.loop-entry.best) c.loop-entry.invariant in
    elim c.if-is_asbr.branch [
      | then-is_asbr w ↦ ap option_copied w.best-is ∙ ap Some w.better.ensures ∙ yes (sym c.is_asbr.ensures ∙ w.if-is_asbr.true)
      | else-is_asbr w ↦ ap option_copied w.best-is ∙ no (sym c.is_asbr.ensures ∙ w.if-is_asbr.false)
    ]
