use Rattle.router_entries.proofs.EntryLemmas.{any_of, tested}
use Rattle.router_entries.proofs.laws.nets_have_entries.Goals as goal

pub returns-clause-found : goal.returns-clause-found
returns-clause-found c = λ r net. any_of r net

pub returns-clause-tested : goal.returns-clause-tested
returns-clause-tested c = λ r net. tested r net
