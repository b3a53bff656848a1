use Rattle.std.proofs.Common.{ap}
use Rattle.lsdb.specs.Slots.{lists_of}
use Rattle.event_links.specs.Events.{edit_of}
use Rattle.event_links.proofs.Edits.{through}
use Rattle.event_links.proofs.resolving.edit_of.Goals as goal

pub returns-in-CutLinks : goal.returns-in-CutLinks
returns-in-CutLinks g c = through c.cut_links.result _ _ (ap (edit_of (lists_of c.args.database.now)) c.in-CutLinks.is) c.cut_links.ensures

pub returns-in-CutLink : goal.returns-in-CutLink
returns-in-CutLink g c = through c.cut_link.result _ _ (ap (edit_of (lists_of c.args.database.now)) c.in-CutLink.is) c.cut_link.ensures

pub returns-in-SetCost : goal.returns-in-SetCost
returns-in-SetCost g c = through c.set_cost.result _ _ (ap (edit_of (lists_of c.args.database.now)) c.in-SetCost.is) c.set_cost.ensures

pub returns-in-SetCostAt : goal.returns-in-SetCostAt
returns-in-SetCostAt g c = through c.set_cost_at.result _ _ (ap (edit_of (lists_of c.args.database.now)) c.in-SetCostAt.is) c.set_cost_at.ensures
