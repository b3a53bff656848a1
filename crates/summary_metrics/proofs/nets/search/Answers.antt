use Rattle.summary_metrics.proofs.NearPlaces.{missing_unless_found}
use Rattle.summary_metrics.proofs.nets.search.Goals as goal

pub returns-clause-missing : goal.returns-clause-missing
returns-clause-missing c = missing_unless_found c.args.net c.args.nets.now c.requires c.binary_search.result c.binary_search.ensures.position
