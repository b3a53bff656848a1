use Rattle.std.proofs.Common.{◌+◌, ◌++◌, List, refl, ap, arith}
use Rattle.lsdb.specs.Slots.{lists_of, item_at, head_or_none}
use Rattle.edit_history.specs.Rules.{section_name}
use Rattle.edit_history.specs.Exchange.{SwapData}
use Rattle.edit_history.specs.Refreshing.{pass_fates}
use Rattle.edit_history.specs.steps.Passing.{chosen}
use Rattle.edit_history.specs.steps.Plans.{swaps_from}
use Rattle.edit_history.proofs.Searches.{exists_at}
use Rattle.edit_history.proofs.FailureFates.{section_turn, section_end}
use Rattle.edit_history.proofs.refreshing.metric_swaps.Goals as goal

pub loop-number-init : goal.loop-number-init
loop-number-init g c = record {
  known = c.requires;
  swaps = ap (λ (ss : List SwapData). ss ++ swaps_from (pass_fates (chosen c.args.pass) (lists_of c.args.database.now)) 0 c.args.database.now)
      c.new-swaps.ensures.items;
}

pub add_pass_swaps-requires-clause-number : goal.add_pass_swaps-requires-clause-number
add_pass_swaps-requires-clause-number g c = exists_at c.args.database.now c.loop-number.number (omega arith)

pub add_pass_swaps-requires-clause-known : goal.add_pass_swaps-requires-clause-known
add_pass_swaps-requires-clause-known g c = c.loop-number.invariant.known

pub loop-number-preserved : goal.loop-number-preserved
loop-number-preserved g c =
    record {
      known = c.in_ok-add_pass_swaps.ensures.known;
      swaps = section_turn (pass_fates (chosen c.args.pass) (lists_of c.args.database.now)) c.args.database.now c.loop-number.number (c.loop-number.number + 1)
          (section_name (head_or_none (item_at c.args.database.now c.loop-number.number))) _ _ _
          (omega arith) (omega arith) refl c.in_ok-add_pass_swaps.ensures.swaps c.loop-number.invariant.swaps;
    }

pub returns-clause-swaps : goal.returns-clause-swaps
returns-clause-swaps g c =
    section_end (pass_fates (chosen c.args.pass) (lists_of c.args.database.now)) c.args.database.now c.loop-number.number _ _ (omega arith)
    c.loop-number.invariant.swaps
