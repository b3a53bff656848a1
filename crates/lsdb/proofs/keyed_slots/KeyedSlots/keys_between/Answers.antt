use Rattle.std.proofs.Common.{List, subst}
use Rattle.lsdb.specs.KeyRanges.{AreKeysBetween}
use Rattle.lsdb.specs.Slots.{Slot}
use Rattle.lsdb.proofs.IndexAnswers.{keys_between}
use Rattle.lsdb.proofs.keyed_slots.KeyedSlots.keys_between.Goals as goal

pub between-requires-clause-noted : goal.between-requires-clause-noted
between-requires-clause-noted g c = c.self.invariant.indexed.keys.rising

pub between-requires-clause-latest : goal.between-requires-clause-latest
between-requires-clause-latest g c = c.self.invariant.indexed.keys.latest_rising

pub returns : goal.returns
returns g c =
    subst (λ (ps : List Slot). AreKeysBetween ps c.args.low c.args.high c.between.result) c.self.view_is
    (keys_between c.self.inside.slots.items c.self.inside.indexes.keys c.between.result c.args.low c.args.high c.self.invariant.indexed.keys
    c.self.invariant.widths c.between.ensures)
