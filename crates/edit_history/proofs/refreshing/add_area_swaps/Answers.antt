use Rattle.std.proofs.Common.{◌+◌, arith}
use Rattle.lsdb.specs.declared.section.Section.TheVariants.{Area}
use Rattle.lsdb.specs.Slots.{lists_of}
use Rattle.edit_history.specs.Refreshing.{metric_fate}
use Rattle.edit_history.proofs.FailureFates.{slot_turn, slot_end}
use Rattle.edit_history.proofs.refreshing.add_area_swaps.Goals as goal

pub add_metric_swap-requires : goal.add_metric_swap-requires
add_metric_swap-requires g c = c.loop-index.invariant.known

pub loop-index-preserved : goal.loop-index-preserved
loop-index-preserved g c =
    record {
      known = c.in_ok-add_metric_swap.ensures.known;
      swaps = slot_turn (metric_fate (lists_of c.args.database.now) c.args.area) c.args.database.now c.args.number (Area c.args.area) c.loop-index.index
          (c.loop-index.index + 1) _ _ _ (omega arith) (omega arith) c.in_ok-add_metric_swap.ensures.swaps c.loop-index.invariant.swaps;
    }

pub returns-clause-swaps : goal.returns-clause-swaps
returns-clause-swaps g c =
    slot_end (metric_fate (lists_of c.args.database.now) c.args.area) c.args.database.now c.args.number (Area c.args.area) c.loop-index.index _ _
    (omega arith) c.loop-index.invariant.swaps
