use Rattle.next_hops.proofs.HopsOf.{Contains-hops_of, IsSortedHops-hops_of}
use Rattle.next_hops.proofs.laws.hops_law.Goals as goal

pub returns-clause-sorted : goal.returns-clause-sorted
returns-clause-sorted c edges root w = IsSortedHops-hops_of edges root w

pub returns-clause-paths : goal.returns-clause-paths
returns-clause-paths c edges root w hop costly = Contains-hops_of edges costly root w hop
