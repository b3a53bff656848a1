use Rattle.std.proofs.Common.{◌-◌, sym, ap, ◌∙◌, subst, arith}
use Rattle.std.specs.Prelude.{IsSome, slice_set}
use Rattle.lsdb.specs.Lists.{IsDatabase}
use Rattle.lsdb.specs.Slots.{put, slot_at, lists_of}
use Rattle.edit_history.specs.Exchange.{SwapData, taken}
use Rattle.edit_history.proofs.Undoing.{undo_turn}
use Rattle.edit_history.proofs.swap.undo_swaps.Goals as goal

pub exchange-requires-clause-exists : goal.exchange-requires-clause-exists
exchange-requires-clause-exists g c =
    let i = c.loop-i.invariant in
    let turn = undo_turn c.args.database.now c.loop-i.database c.args.swaps.now c.loop-i.swaps (c.loop-i.i - 1) c.loop-i.i c.index-swaps-i.result
    (omega arith) i.low i.can i.slots i.swaps c.index-swaps-i.is in
    subst (λ (s : SwapData). IsSome (slot_at c.loop-i.database s.slot)) c.index-swaps-i.is turn.0

pub exchange-requires-clause-sound : goal.exchange-requires-clause-sound
exchange-requires-clause-sound g c =
    let i = c.loop-i.invariant in
    let turn = undo_turn c.args.database.now c.loop-i.database c.args.swaps.now c.loop-i.swaps (c.loop-i.i - 1) c.loop-i.i c.index-swaps-i.result
    (omega arith) i.low i.can i.slots i.swaps c.index-swaps-i.is in
    subst (λ (s : SwapData). IsDatabase (lists_of (put c.loop-i.database s.slot s.other))) c.index-swaps-i.is turn.1

pub loop-i-preserved : goal.loop-i-preserved
loop-i-preserved g c =
    let i = c.loop-i.invariant in
    let turn = undo_turn c.args.database.now c.loop-i.database c.args.swaps.now c.loop-i.swaps (c.loop-i.i - 1) c.loop-i.i c.index-swaps-i.result
    (omega arith) i.low i.can i.slots i.swaps c.index-swaps-i.is in
    record {
      low = omega arith;
      can = i.can;
      slots = c.exchange.ensures.database ∙ ap (λ (s : SwapData). put c.loop-i.database s.slot s.other) (sym c.index-swaps-i.is) ∙ turn.2;
      swaps = ap (λ (s : SwapData). slice_set c.loop-i.swaps (c.loop-i.i - 1) s)
          (c.exchange.ensures.swap ∙ ap (taken c.loop-i.database) (sym c.index-swaps-i.is)) ∙ turn.3;
    }
