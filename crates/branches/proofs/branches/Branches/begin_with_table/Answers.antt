use Rattle.std.proofs.Common.{◌∙◌, ap}
use Rattle.branches.specs.Branches.{Named, sessions_of, with_session}
use Rattle.branches.proofs.BranchSessions.{begins_alone}
use Rattle.branches.proofs.branches.Branches.begin_with_table.Goals as goal

pub returns-clause-kept : goal.returns-clause-kept
returns-clause-kept g c =
    let b = c.args.branch in
    let s = c.push_table_now.new.planner.session in
    begins_alone c.args.self.now c.name.new.self b s c.requires.not_first c.requires.new
    (c.push_table_now.ensures.kept ∙ c.in_ok-planner.ensures.begun)
    (c.in_ok-name.ensures.sessions ∙ ap (λ (n : Named). with_session b s (sessions_of n)) c.begun.ensures.kept)
