use Rattle.lsa_codec.proofs.FieldsMade.{cost_kept, link_kept, links_kept, stub_kept}
use Rattle.lsa_codec.proofs.laws.router_makers_keep_age_and_flags.Goals as goal

pub returns-clause-cost : goal.returns-clause-cost
returns-clause-cost c = cost_kept

pub returns-clause-link : goal.returns-clause-link
returns-clause-link c = link_kept

pub returns-clause-links : goal.returns-clause-links
returns-clause-links c = links_kept

pub returns-clause-stub : goal.returns-clause-stub
returns-clause-stub c = stub_kept
