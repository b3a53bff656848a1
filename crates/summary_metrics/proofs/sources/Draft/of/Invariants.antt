use Rattle.std.proofs.Common.{map}
use Rattle.summary_metrics.specs.BackboneSummaries.{AreAnnounced}
use Rattle.summary_metrics.proofs.sources.Draft.of.Given as goal

-- the sources of the LSAs so far
abbrev pub invariant-loop-lsa : goal.invariant-loop-lsa
invariant-loop-lsa g l = AreAnnounced (map (λ lsa. lsa.now) l.yielded) l.summaries
