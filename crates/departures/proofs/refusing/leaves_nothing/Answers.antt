use Rattle.std.proofs.Common.{ap, ◌∙◌}
use Rattle.lsdb.specs.Slots.{lists_of}
use Rattle.departures.specs.Departures.{all_zero}
use Rattle.departures.proofs.Refusals.{nothing_counted}
use Rattle.departures.proofs.refusing.leaves_nothing.Goals as goal

pub returns : goal.returns
returns g c =
    c.all_zero.ensures ∙ ap all_zero c.deref.ensures.value
    ∙ nothing_counted (lists_of c.args.database.now) c.args.event.now c.args.areas.now c.in_ok-counts.counts.items c.requires c.in_ok-counts.ensures
