use Rattle.std.proofs.Common.{◌∙◌}
use Rattle.router_entries.proofs.EntryLemmas.{equal_nets}
use Rattle.lost_routes.proofs.announcers.is_for.Goals as goal

pub returns : goal.returns
returns c = c.eq.ensures ∙ equal_nets c.args.net c.args.pair.net
