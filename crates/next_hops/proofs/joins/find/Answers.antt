use Rattle.std.proofs.Common.{◌∙◌}
use Rattle.std.proofs.lemmas.Bool.{eqb-true}
use Rattle.next_hops.proofs.Keeping.{found_join}
use Rattle.next_hops.proofs.joins.find.Goals as goal

pub returns : goal.returns
returns g c = found_join _ eqb-true c.args.numbers.now c.args.joins.now.entries c.copied.result (c.copied.ensures ∙ c.get.ensures.value)
