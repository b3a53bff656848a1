use Rattle.std.proofs.Common.{◌∙◌}
use Rattle.edit_history.specs.Exchange.{touches}
use Rattle.edit_history.proofs.Touching.{moved_is}
use Rattle.edit_history.proofs.history.History.touches.Goals as goal

pub returns : goal.returns
returns g c = λ d links.
    c.any_touches.ensures ∙ c.moved_records.ensures (touches c.args.area) ∙ moved_is d c.args.self.now.lists c.args.moved c.args.area links
