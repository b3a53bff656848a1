use Rattle.std.proofs.Common.{ap}
use Rattle.host_io.specs.Watched.{inner_of}
use Rattle.whole_study.proofs.RunEnds.{ends_by, prefix_after}
use Rattle.whole_study.proofs.running.run_studies.Goals as goal

pub returns-clause-ended : goal.returns-clause-ended
returns-clause-ended g c =
    ends_by c.args.manner _ _ _ _ _ _ _ _ c.in_ok-carry_out.ensures.carried c.new-summary.ensures _ _
    (ap (λ w. g.E.Write.contents (inner_of w)) c.finish.ensures.errors) c.finish.result (rw c.format-format.ensures at c.finish.ensures.replies)
    c.finish.ensures.ended

pub returns-clause-prefix : goal.returns-clause-prefix
returns-clause-prefix g c =
    prefix_after _ _ _ _ _ _ _ _ _ c.in_ok-carry_out.ensures.carried c.new-summary.ensures _ _ (rw c.format-format.ensures at c.finish.ensures.part)
    (ap (λ w. g.E.Write.contents (inner_of w)) c.finish.ensures.errors)
