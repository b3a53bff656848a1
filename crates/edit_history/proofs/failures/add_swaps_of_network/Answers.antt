use Rattle.std.proofs.Common.{◌+◌, ◌∙◌, arith, sym}
use Rattle.edit_history.specs.Effect.{net_fate}
use Rattle.edit_history.proofs.FailureFates.{slot_turn, slot_end}
use Rattle.edit_history.proofs.NetworkSwaps.{slot_passed}
use Rattle.edit_history.proofs.failures.add_swaps_of_network.Goals as goal

pub loop-index-preserved : goal.loop-index-preserved
loop-index-preserved g c =
    slot_turn (net_fate c.args.network) c.args.database.now c.args.number c.args.section c.loop-index.index (c.loop-index.index + 1) _ _ _
    (omega arith) (omega arith) c.in_ok-add_swap.ensures.swaps c.loop-index.invariant

pub returns-clause-swaps : goal.returns-clause-swaps
returns-clause-swaps g c =
    slot_end (net_fate c.args.network) c.args.database.now c.args.number c.args.section c.loop-index.index _ _ (omega arith) c.loop-index.invariant

pub loop-index-preserved-then-not-may_have : goal.loop-index-preserved-then-not-may_have
loop-index-preserved-then-not-may_have g c =
    slot_passed c.args.network c.args.database.now c.args.number c.args.section c.loop-index.index (c.loop-index.index + 1)
    c.transit_filters-filters.result.now _ _ _ c.transit_filters-filters.ensures (omega arith) (sym c.may_have.ensures ∙ c.if-not-may_have.true)
    (omega arith) c.loop-index.invariant
