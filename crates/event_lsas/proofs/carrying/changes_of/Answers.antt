use Rattle.std.proofs.Common.{◌+◌, ◌++◌, List, ap, arith}
use Rattle.lsdb.specs.Slots.{lists_of}
use Rattle.event_lsas.specs.LinkEvents.{outcome_of}
use Rattle.event_lsas.specs.Outcomes.{SlotChangeData}
use Rattle.event_lsas.specs.SlotChanges.{changes_from}
use Rattle.event_lsas.proofs.Turns.{exists_at, section_turn, section_end}
use Rattle.event_lsas.proofs.carrying.changes_of.Goals as goal

pub loop-number-init : goal.loop-number-init
loop-number-init g c =
    ap (λ (cs : List SlotChangeData). cs ++ changes_from (outcome_of (lists_of c.args.database.now) c.args.edit) 0 c.args.database.now)
    c.new-changes.ensures.items

pub add_section_changes-requires : goal.add_section_changes-requires
add_section_changes-requires g c = exists_at c.args.database.now c.loop-number.number (omega arith)

pub loop-number-preserved : goal.loop-number-preserved
loop-number-preserved g c =
    section_turn (outcome_of (lists_of c.args.database.now) c.args.edit) c.args.database.now c.loop-number.number (c.loop-number.number + 1) _ _ _
    (omega arith) (omega arith) c.in_ok-add_section_changes.ensures c.loop-number.invariant

pub returns : goal.returns
returns g c =
    section_end (outcome_of (lists_of c.args.database.now) c.args.edit) c.args.database.now c.loop-number.number _ _ (omega arith) c.loop-number.invariant
