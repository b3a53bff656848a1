use Rattle.edit_history.proofs.EventFates.{happening_planned}
use Rattle.edit_history.proofs.events.plan_event.Goals as goal

pub returns-in-Ok-swaps_of : goal.returns-in-Ok-swaps_of
returns-in-Ok-swaps_of g c =
    happening_planned c.args.database.now c.args.event c.in-Ok.happens c.in-Ok-swaps_of.swaps.items c.assert_valid.ensures c.in-Ok.ensures
    c.in-Ok-swaps_of.ensures.swaps
