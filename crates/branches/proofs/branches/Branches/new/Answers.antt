use Rattle.std.proofs.Common.{◌∙◌, ap}
use Rattle.lsdb.specs.Slots.{lists_of}
use Rattle.branches.specs.Branches.{resumed}
use Rattle.branches.proofs.BranchSessions.{resumed_at_start}
use Rattle.branches.proofs.branches.Branches.new.Goals as goal

pub returns : goal.returns
returns g c = c.resume.ensures ∙ ap resumed c.new.ensures.session ∙ resumed_at_start (lists_of c.args.database)
