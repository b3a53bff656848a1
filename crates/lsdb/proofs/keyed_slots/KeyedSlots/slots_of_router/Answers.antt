use Rattle.std.proofs.Common.{List, subst}
use Rattle.lsdb.specs.RouterSlots.{AreSlotsOfRouter}
use Rattle.lsdb.specs.Slots.{Slot}
use Rattle.lsdb.proofs.IndexAnswers.{slots_of_router}
use Rattle.lsdb.proofs.keyed_slots.KeyedSlots.slots_of_router.Goals as goal

pub between-requires-clause-noted : goal.between-requires-clause-noted
between-requires-clause-noted g c = c.self.invariant.indexed.routers.rising

pub between-requires-clause-latest : goal.between-requires-clause-latest
between-requires-clause-latest g c = c.self.invariant.indexed.routers.latest_rising

pub returns : goal.returns
returns g c =
    subst (λ (ps : List Slot). AreSlotsOfRouter ps c.args.router c.between.result) c.self.view_is
    (slots_of_router c.self.inside.slots.items c.self.inside.indexes.routers c.between.result c.args.router c.self.invariant.indexed.routers c.between.ensures)
