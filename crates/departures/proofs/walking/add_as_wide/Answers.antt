use Rattle.std.proofs.Common.{◌+◌, arith}
use Rattle.lsdb.specs.declared.section.Section.TheVariants.{AsWide}
use Rattle.departures.specs.Departures.{as_lsa_after}
use Rattle.departures.proofs.SlotWalks.{slot_passed, slots_passed}
use Rattle.departures.proofs.walking.add_as_wide.Goals as goal

pub loop-index-preserved : goal.loop-index-preserved
loop-index-preserved g c =
    slot_passed (as_lsa_after c.args.event.now) c.args.number AsWide c.args.database.now c.loop-index.index
    (c.loop-index.index + 1) _ _ _ _ (omega arith) (omega arith) c.change_in_as.ensures c.in_ok-push_some.ensures
    c.loop-index.invariant

pub returns : goal.returns
returns g c =
    slots_passed (as_lsa_after c.args.event.now) c.args.number AsWide c.args.database.now c.loop-index.index _ _ (omega arith) c.loop-index.invariant
