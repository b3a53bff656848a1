use Rattle.lsa_instances.proofs.OrderLemmas.{instance_total, instance_exact}
use Rattle.lsa_instances.proofs.Rule.{extends}
use Rattle.lsa_instances.proofs.laws.instance_order.Goals as goal

pub returns-clause-total : goal.returns-clause-total
returns-clause-total c = instance_total

pub returns-clause-exact : goal.returns-clause-exact
returns-clause-exact c = instance_exact

pub returns-clause-rule : goal.returns-clause-rule
returns-clause-rule c = extends
