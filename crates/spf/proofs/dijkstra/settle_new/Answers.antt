use Rattle.std.proofs.Common.{IsSome, get_or, None, rules, arith}
use Rattle.spf.specs.steps.Table.{settled_in}
use Rattle.spf.proofs.Reached.{some_of}
use Rattle.spf.proofs.Waiting.{waiting_dropped}
use Rattle.spf.proofs.dijkstra.settle_new.Goals as goal

pub returns-else-is_none-clause-waiting : goal.returns-else-is_none-clause-waiting
returns-else-is_none-clause-waiting g c =
    let numbers = c.args.distances.now in
    let some : IsSome (get_or (settled_in numbers) c.args.next.index None) = search rules in
    let x = some_of (get_or (settled_in numbers) c.args.next.index None) some in
    waiting_dropped numbers c.args.next c.args.queue.now x.0 (omega arith) x.1 c.requires.waiting
