use Rattle.std.proofs.Common.{◌++◌, List, subst}
use Rattle.lsdb.specs.declared.origin.Origin.{Origin}
use Rattle.lsdb.specs.PrefixSlots.{AreSlotsOfPrefix}
use Rattle.lsdb.specs.Slots.{Slot}
use Rattle.lsdb.specs.steps.IndexKeys.{origin_cmp}
use Rattle.lsdb.specs.steps.SlotIndex.{IsPart}
use Rattle.lsdb.proofs.IndexAnswers.{slots_of_prefix}
use Rattle.lsdb.proofs.keyed_slots.KeyedSlots.slots_of_prefix.Goals as goal

pub between-requires-clause-noted : goal.between-requires-clause-noted
between-requires-clause-noted g c = c.self.invariant.indexed.prefixes.rising

pub between-requires-clause-latest : goal.between-requires-clause-latest
between-requires-clause-latest g c = c.self.invariant.indexed.prefixes.latest_rising

pub returns : goal.returns
returns g c =
    let index = c.self.inside.indexes.prefixes in
    subst (λ (ps : List Slot). AreSlotsOfPrefix ps c.args.router c.args.prefix c.between.result) c.self.view_is
    (slots_of_prefix c.self.inside.slots.items index c.between.result c.args.router c.args.prefix c.self.invariant.indexed.prefixes
    (subst (λ (origin : Origin). IsPart origin_cmp (index.latest.items ++ index.noted.items) origin origin c.between.result) c.new-origin.ensures
    c.between.ensures))
