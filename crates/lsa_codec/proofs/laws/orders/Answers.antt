use Rattle.lsa_codec.proofs.OrderLemmas.{area_total, area_exact, router_total, router_exact, prefix_total, prefix_exact, key_total, key_exact}
use Rattle.lsa_codec.proofs.laws.orders.Goals as goal

pub returns-clause-areas_are_total : goal.returns-clause-areas_are_total
returns-clause-areas_are_total c = area_total

pub returns-clause-areas_are_exact : goal.returns-clause-areas_are_exact
returns-clause-areas_are_exact c = area_exact

pub returns-clause-routers_are_total : goal.returns-clause-routers_are_total
returns-clause-routers_are_total c = router_total

pub returns-clause-routers_are_exact : goal.returns-clause-routers_are_exact
returns-clause-routers_are_exact c = router_exact

pub returns-clause-prefixes_are_total : goal.returns-clause-prefixes_are_total
returns-clause-prefixes_are_total c = prefix_total

pub returns-clause-prefixes_are_exact : goal.returns-clause-prefixes_are_exact
returns-clause-prefixes_are_exact c = prefix_exact

pub returns-clause-keys_are_total : goal.returns-clause-keys_are_total
returns-clause-keys_are_total c = key_total

pub returns-clause-keys_are_exact : goal.returns-clause-keys_are_exact
returns-clause-keys_are_exact c = key_exact
