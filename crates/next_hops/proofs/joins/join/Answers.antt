use Rattle.next_hops.proofs.Keeping.{IsJoin-found}
use Rattle.next_hops.proofs.joins.join.Goals as goal

pub returns-in-Some-clause-join : goal.returns-in-Some-clause-join
returns-in-Some-clause-join g c =
    IsJoin-found c.args.lists.now.keys c.args.joins.now.entries c.requires.joined c.args.numbers.now c.in-Some.number c.in-Some.ensures
