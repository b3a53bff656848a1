use Rattle.std.proofs.Common.{refl}
use Rattle.whole_run.proofs.OpeningLemmas.{if_too_long}
use Rattle.whole_study.proofs.inputs.too_large.Goals as goal

pub returns-in-Dump-clause-end : goal.returns-in-Dump-clause-end
returns-in-Dump-clause-end g c = rw c.in-Dump.is (λ known long. (λ e. absurd cc, if_too_long known long))

pub returns-in-Baseline-clause-end : goal.returns-in-Baseline-clause-end
returns-in-Baseline-clause-end g c = rw c.in-Baseline.is (λ known long. ((λ e. absurd cc, if_too_long known long), refl))
