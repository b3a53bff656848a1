use Rattle.explanation.proofs.OneRest.{one_step}
use Rattle.explanation.proofs.steps.insert_step.Goals as goal

pub returns : goal.returns
returns g c = one_step c.args.steps.now.keys c.insert.new.self.keys c.args.step c.in_ok-insert.ensures.keys
