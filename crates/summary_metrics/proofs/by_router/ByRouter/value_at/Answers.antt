use Rattle.std.proofs.Common.{rules, arith, ◌≡◌}
use Rattle.summary_metrics.proofs.FoundPairs.{found_pair}
use Rattle.summary_metrics.proofs.by_router.ByRouter.value_at.Goals as goal

pub returns : goal.returns
returns g c =
    let same : c.index.result.now.0 ≡ c.args.router = search rules in
    found_pair c.self.inside.values.items c.args.self.now c.self.view_is c.args.place c.args.router c.index.result.now c.index.ensures (omega arith) same
