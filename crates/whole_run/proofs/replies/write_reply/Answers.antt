use Rattle.std.proofs.Common.{◌∙◌}
use Rattle.branches.specs.Branches.{sessions_of}
use Rattle.branches.proofs.SessionLemmas.{with_own}
use Rattle.whole_run.proofs.replies.write_reply.Goals as goal

pub returns-in-Tables-clause-sessions : goal.returns-in-Tables-clause-sessions
returns-in-Tables-clause-sessions g c =
    rw c.in-Tables.is (c.write_tables.ensures.kept ∙ with_own c.args.branch (sessions_of c.args.branches.now))
