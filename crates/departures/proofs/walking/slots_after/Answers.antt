use Rattle.std.proofs.Common.{◌+◌, ◌++◌, List, ap, arith}
use Rattle.lsdb.specs.Slots.{lists_of}
use Rattle.event_lsas.specs.Outcomes.{SlotChangeData}
use Rattle.departures.specs.Departures.{outcome_of}
use Rattle.departures.proofs.SlotWalks.{from_section, is_section, section_passed, sections_passed}
use Rattle.departures.proofs.walking.slots_after.Goals as goal

pub loop-number-init : goal.loop-number-init
loop-number-init g c =
    ap (λ (cs : List SlotChangeData). cs ++ from_section (outcome_of (lists_of c.args.database.now) c.args.event.now) c.args.database.now 0)
    c.new-changes.ensures.items

pub add_section-requires : goal.add_section-requires
add_section-requires g c = is_section c.args.database.now c.loop-number.number (omega arith)

pub loop-number-preserved : goal.loop-number-preserved
loop-number-preserved g c =
    section_passed (outcome_of (lists_of c.args.database.now) c.args.event.now) c.args.database.now c.loop-number.number
    (c.loop-number.number + 1) _ _ _ (omega arith) (omega arith) c.in_ok-add_section.ensures c.loop-number.invariant

pub returns : goal.returns
returns g c =
    sections_passed (outcome_of (lists_of c.args.database.now) c.args.event.now) c.args.database.now c.loop-number.number _ _ (omega arith)
    c.loop-number.invariant
