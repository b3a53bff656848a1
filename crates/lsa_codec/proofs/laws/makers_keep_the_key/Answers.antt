use Rattle.lsa_codec.proofs.Rewritten.{cost_rewritten, link_rewritten, links_rewritten, stub_extended, metric_rewritten}
use Rattle.lsa_codec.proofs.laws.makers_keep_the_key.Goals as goal

pub returns-clause-cost : goal.returns-clause-cost
returns-clause-cost c = cost_rewritten

pub returns-clause-link : goal.returns-clause-link
returns-clause-link c = link_rewritten

pub returns-clause-links : goal.returns-clause-links
returns-clause-links c = links_rewritten

pub returns-clause-stub : goal.returns-clause-stub
returns-clause-stub c net metric lsa made old kind is_net = stub_extended net metric lsa made old kind is_net.short

pub returns-clause-metric : goal.returns-clause-metric
returns-clause-metric c = metric_rewritten
