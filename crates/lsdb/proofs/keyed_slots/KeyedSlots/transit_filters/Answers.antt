use Rattle.std.proofs.Common.{◌∙◌, ap}
use Rattle.lsdb.specs.steps.Filtering.{filters_of}
use Rattle.lsdb.proofs.Filters.{are_filters}
use Rattle.lsdb.proofs.keyed_slots.KeyedSlots.transit_filters.Goals as goal

pub returns : goal.returns
returns g c =
    are_filters c.args.self.now c.deref.result.now (c.deref.ensures.value ∙ c.self.invariant.filters ∙ ap filters_of c.self.view_is)
