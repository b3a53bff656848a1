use Rattle.forwarding.proofs.LongestMatchLemmas.{longest_is}
use Rattle.forwarding.proofs.laws.matches_are_longest.Goals as goal

pub returns : goal.returns
returns c = λ entry address. longest_is entry address
