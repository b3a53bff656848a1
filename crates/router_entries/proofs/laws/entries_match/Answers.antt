use Rattle.router_entries.proofs.Matching.{matches}
use Rattle.router_entries.proofs.laws.entries_match.Goals as goal

pub returns : goal.returns
returns c = λ db r net. matches db r net
