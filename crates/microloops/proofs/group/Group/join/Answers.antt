use Rattle.std.proofs.lemmas.Result.{IfOk-weaker}
use Rattle.microloops.specs.steps.Groups.{IsJoined}
use Rattle.microloops.proofs.Members.{swapped}
use Rattle.microloops.proofs.group.Group.join.Goals as goal

pub returns-then-len : goal.returns-then-len
returns-then-len g c =
    IfOk-weaker c.absorb.result (IsJoined c.args.other c.args.self) (IsJoined c.args.self c.args.other)
    (λ joined is. swapped c.args.other c.args.self joined is) c.absorb.ensures
