use Rattle.std.proofs.Common.{◌+◌, arith}
use Rattle.lsdb.specs.declared.section.Section.TheVariants.{Area}
use Rattle.event_lsas.specs.Outcomes.{where_chosen}
use Rattle.event_lsas.proofs.Turns.{slot_turn, slot_end}
use Rattle.event_lsas.proofs.carrying.add_area_changes.Goals as goal

pub loop-index-preserved : goal.loop-index-preserved
loop-index-preserved g c =
    slot_turn (where_chosen c.args.change c.args.chosen.now) c.args.number (Area c.args.area) c.args.database.now c.loop-index.index
    (c.loop-index.index + 1) _ _ _ (omega arith) (omega arith) c.in_ok-add_change.ensures c.loop-index.invariant

pub returns : goal.returns
returns g c =
    slot_end (where_chosen c.args.change c.args.chosen.now) c.args.number (Area c.args.area) c.args.database.now c.loop-index.index _ _ (omega arith)
    c.loop-index.invariant
