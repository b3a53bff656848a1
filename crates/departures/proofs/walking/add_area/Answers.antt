use Rattle.std.proofs.Common.{◌+◌, arith}
use Rattle.lsdb.specs.declared.section.Section.TheVariants.{Area}
use Rattle.lsdb.specs.Slots.{lists_of}
use Rattle.departures.specs.Departures.{area_lsa_after}
use Rattle.departures.proofs.SlotWalks.{slot_passed, slots_passed}
use Rattle.departures.proofs.walking.add_area.Goals as goal

pub loop-index-preserved : goal.loop-index-preserved
loop-index-preserved g c =
    slot_passed (area_lsa_after (lists_of c.args.database.now) c.args.event.now c.args.area) c.args.number (Area c.args.area) c.args.database.now
    c.loop-index.index (c.loop-index.index + 1) _ _ _ _ (omega arith) (omega arith) c.in_ok-change.ensures c.in_ok-push_some.ensures c.loop-index.invariant

pub returns : goal.returns
returns g c =
    slots_passed (area_lsa_after (lists_of c.args.database.now) c.args.event.now c.args.area) c.args.number (Area c.args.area) c.args.database.now
    c.loop-index.index _ _ (omega arith) c.loop-index.invariant
